-- Polls add up, and a row that leads to another asks for none.
use Rattle.std.proofs.Common.{◌≡◌, ◌+◌, ℕ, zero, suc, inl, inr, Bool, true, false, List, [], ◌∷◌}
use Rattle.std.proofs.Common.{◌++◌, Option, Some, None, refl, arith}
use Rattle.std.proofs.lemmas.Bool.{cases_lt}
use Rattle.lk_run.proofs.Names.{Calls, Mark, Acquires, HasStayed, NeverFalls, RisesBy}
use Rattle.lk_run.specs.Polls.{Rises}

pub falls_none : (a : Option ℕ) → NeverFalls a a
falls_none None = refl
falls_none (Some n) = omega arith

-- after calls in which it has not fallen, a poll
pub rises_after : (a b c : Option ℕ) → NeverFalls a b → Rises b c → Rises a c
rises_after None b c f r = by b f r
  where
    by : (b : Option ℕ) → b ≡ None → Rises b c → c ≡ None
    by None e r = r
    by (Some n) e r = cc e
rises_after (Some n) None c f r = absurd f
rises_after (Some n) (Some k) None f r = absurd r
rises_after (Some n) (Some k) (Some m) f (inl r) = inl (omega (arith, f, r))
rises_after (Some n) (Some k) (Some m) f (inr r) =
    let x = r.0 in
    let y = r.1 in
    elim (cases_lt n m) [ inl h ↦ inl h | inr h ↦ inr (omega (arith, f, x, y, h), y) ]

pub falls_after : (a b c : Option ℕ) → NeverFalls a b → Rises b c → NeverFalls a c
falls_after None b c f r = by b f r
  where
    by : (b : Option ℕ) → b ≡ None → Rises b c → c ≡ None
    by None e r = r
    by (Some n) e r = cc e
falls_after (Some n) None c f r = absurd f
falls_after (Some n) (Some k) None f r = absurd r
falls_after (Some n) (Some k) (Some m) f (inl r) = omega (arith, f, r)
falls_after (Some n) (Some k) (Some m) f (inr r) = let a = r.0 in let b = r.1 in omega (arith, f, a, b)

-- a number that rose has not fallen
falls_of : (a b : Option ℕ) → Rises a b → NeverFalls a b
falls_of a b r = falls_after a a b (falls_none a) r

-- so many polls, and one more, are no fewer
pub more_after : (k : ℕ) (a b c : Option ℕ) → RisesBy k a b → Rises b c → RisesBy k a c
more_after zero a b c was r = falls_after a b c was r
more_after (suc k) a b c was r = (was.0, was.1, rises_after was.0 b c (falls_of was.0 b was.2) r)

-- rows that differ are no stay
pub stays_before : (k : ℕ) (ks : List Mark) (a b : Mark) → (b.row ≡ a.row → ⊥)
    → HasStayed k ((ks ++ a ∷ []) ++ b ∷ []) → HasStayed k (ks ++ a ∷ [])
stays_before zero ks a b ne h = tt
stays_before (suc k) [] a b ne (inl e) = absurd (ne e.0)
stays_before (suc k) [] a b ne (inr h) = absurd h
stays_before (suc k) (j ∷ []) a b ne (inl e) = inl (e.0, stays_before k [] a b ne e.1)
stays_before (suc k) (j ∷ []) a b ne (inr h) = inr (stays_before (suc k) [] a b ne h)
stays_before (suc k) (j ∷ i ∷ ks) a b ne (inl e) = inl (e.0, stays_before k (i ∷ ks) a b ne e.1)
stays_before (suc k) (j ∷ i ∷ ks) a b ne (inr h) = inr (stays_before (suc k) (i ∷ ks) a b ne h)

-- the last row makes one stay at most
stays_less : (k : ℕ) (ks : List Mark) (b : Mark) → HasStayed (suc k) (ks ++ b ∷ []) → HasStayed k ks
stays_less zero ks b h = tt
stays_less (suc k) [] b h = absurd h
stays_less (suc k) (j ∷ []) b (inl e) = absurd e.1
stays_less (suc k) (j ∷ []) b (inr h) = absurd h
stays_less (suc k) (j ∷ i ∷ ks) b (inl e) = inl (e.0, stays_less k (i ∷ ks) b e.1)
stays_less (suc k) (j ∷ i ∷ ks) b (inr h) = inr (stays_less (suc k) (i ∷ ks) b h)

-- so a poll makes up for it
pub polled_by : (k : ℕ) (ks : List Mark) (b : Mark) (a c d : Option ℕ)
    → ((j : ℕ) → HasStayed j ks → RisesBy j a c) → Rises c d → HasStayed k (ks ++ b ∷ []) → RisesBy k a d
polled_by zero ks b a c d was rose h = falls_after a c d (was zero tt) rose
polled_by (suc k) ks b a c d was rose h = (c, was k (stays_less k ks b h), rose)

-- more rows make no fewer stays
pub stays_more : (k : ℕ) (ks js : List Mark) → HasStayed k ks → HasStayed k (ks ++ js)
stays_more zero ks js h = tt
stays_more (suc k) [] js h = absurd h
stays_more (suc k) (a ∷ []) js h = absurd h
stays_more (suc k) (a ∷ b ∷ ks) js (inl e) = inl (e.0, stays_more k (b ∷ ks) js e.1)
stays_more (suc k) (a ∷ b ∷ ks) js (inr h) = inr (stays_more (suc k) (b ∷ ks) js h)

-- how many locks were taken, where nothing else ran
pub acquired : (nests : Bool) (n : ℕ) (old new : Calls) (t u : Option ℕ) → new.taken ≡ old.taken + n → Acquires nests n old new t u
acquired false n old new t u e = e
acquired true n old new t u e = inr e

-- and where the count is known from one that came before
pub recount : (nests : Bool) (m n : ℕ) (old was new : Calls) (t u : Option ℕ) → Acquires nests m old was t u
    → (was.taken ≡ old.taken + m → new.taken ≡ old.taken + n) → Acquires nests n old new t u
recount false m n old was new t u e by = by e
recount true m n old was new t u (inl rose) by = inl rose
recount true m n old was new t u (inr e) by = inr (by e)

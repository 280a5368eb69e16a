-- In which phase a frame is that polls, and what a word says that is not free.
use Rattle.std.proofs.Common.{◌≡◌, ◌≢◌, ◌⊎◌, inl, inr, ℕ, zero, suc, ◌<◌, Option, Some, None, Bool}
use Rattle.std.proofs.Common.{true, false, refl, subst, arith}
use Rattle.lk_waits.proofs.Names.{cases_Bool, RwFields, Fields, Locked, Free, NodeName, Spins, Flag}
use Rattle.lk_waits.proofs.Names.{Frame, Pc, G6, G7, G10, P3, R2, R5, is_cleared, is_free}
use Rattle.lk_waits.proofs.Names.{is_unlocked, chooses, is_rw_row, may_halt, Phase, leads, pends}
use Rattle.lk_waits.proofs.Names.{Idle, Links, phase_at, biased, spins, lock_at, polls}
use Rattle.lk_names.specs.declared.holder.Manner.{Manner}
use Rattle.lk_names.specs.declared.holder.Manner.TheVariants.{Reads, Writes}
use Rattle.lk_law.specs.{Phase.has_lock, RwPhase.reads, SoundWorld.rw_own_phase}
use Rattle.lk_waits.proofs.Owning.{owns}
use Rattle.lk_waits.specs.Order.{is_coming}
use Rattle.lk_rows.specs.declared.parts.Flag.TheVariants as flag

-- phases and rows

pub has_cases : (r : Phase) (h : Bool) → has_lock r h ≡ true → (owns r ≡ true) ⊎ (h ≡ true)
has_cases r h e = grind (arith, e, cases_Bool (owns r))

pub owns_busy : (r : Phase) → owns r ≡ true → r ≢ Idle
owns_busy r h e = grind (arith, h, e)

pub pends_busy : (r : Phase) → pends r ≡ true → r ≢ Idle
pends_busy r h e = grind (arith, h, e)

pub leads_busy : (r : Phase) (x : Flag) → leads r x ≡ true → r ≢ Idle
leads_busy r x h e = let z : leads Idle x ≡ true = subst (λ (p : Phase). leads p x ≡ true) e h in cc z

pub links_busy : (r : Phase) (n : NodeName) → r ≡ Links n → r ≢ Idle
links_busy r n h e = grind (arith, h, e)

-- the polls of a phase
pub owns_polls : (d : Pc) (b : Bool) (x y : NodeName) → owns (phase_at d b x y) ≡ true → polls d ≡ true
    → may_halt d ≡ false → chooses d ≡ false → d ≡ G10
owns_polls G10 b x y o p a k = refl
owns_polls d b x y o p a k = grind (arith, o, p, a, k)

pub pends_polls : (d : Pc) (b : Bool) (x y : NodeName) → pends (phase_at d b x y) ≡ true → polls d ≡ true
    → may_halt d ≡ false → d ≡ P3
pends_polls P3 b x y o p a = refl
pends_polls d b x y o p a = grind (arith, o, p, a)

pub links_polls : (d : Pc) (b : Bool) (x y n : NodeName) → phase_at d b x y ≡ Links n → polls d ≡ true → ⊥
links_polls d b x y n e p = grind (arith, e, p)

pub comes_polls : (d : Pc) → is_coming d ≡ true → polls d ≡ true → ⊥
comes_polls d e p = grind (arith, e, p)

pub comes_spin : (d : Pc) → is_coming d ≡ true → is_rw_row d ≡ false
comes_spin d e = grind (arith, e)

pub plain_lock : (d : Pc) (g : Frame) → is_rw_row d ≡ false → lock_at d g ≡ g.lock
plain_lock d g h = rw h refl

-- who leads, at a poll: it waits for its flag, or for the lock, or for the next
pub leads_polls : (d : Pc) (b : Bool) (x y : NodeName) (n : Flag) → leads (phase_at d b x y) n ≡ true → polls d ≡ true
    → may_halt d ≡ false → chooses d ≡ false → ((d ≡ G6) × (n ≢ flag.Unset)) ⊎ (d ≡ G7) ⊎ (d ≡ G10)
leads_polls G6 b x y flag.Unset o p a k = cc o
leads_polls G6 b x y flag.Go o p a k = inl (refl, λ e. cc e)
leads_polls G6 b x y (flag.Second z) o p a k = inl (refl, λ e. cc e)
leads_polls G7 b x y n o p a k = inr (inl refl)
leads_polls G10 b x y n o p a k = inr (inr refl)
leads_polls d b x y n o p a k = grind (arith, o, p, a, k)

pub biased_polls : (d : Pc) → biased (rw_own_phase d) ≡ true → polls d ≡ true → (d ≡ R2) ⊎ (d ≡ R5)
biased_polls R2 o p = inl refl
biased_polls R5 o p = inr refl
biased_polls d o p = grind (arith, o, p)

pub spins_is : (o : Option Manner) → spins o ≡ true → o ≡ Some Spins
spins_is None e = cc e
spins_is (Some Spins) e = refl
spins_is (Some Reads) e = cc e
spins_is (Some Writes) e = cc e

pub reads_is : (o : Option Manner) → reads o ≡ true → o ≡ Some Reads
reads_is None e = cc e
reads_is (Some Spins) e = cc e
reads_is (Some Reads) e = refl
reads_is (Some Writes) e = cc e

-- a word that is not free has its byte taken, or pending set, or a tail
pub unfree : (x : Fields) → is_free x ≡ false
    → (is_unlocked x.locked ≡ false) ⊎ (x.pending ≡ true) ⊎ ((n : NodeName) × (x.tail ≡ Some n))
unfree x h = by (is_unlocked x.locked) refl x.pending refl x.tail refl
  where
    by : (a : Bool) → is_unlocked x.locked ≡ a → (p : Bool) → x.pending ≡ p
        → (t : Option NodeName) → x.tail ≡ t
        → (is_unlocked x.locked ≡ false) ⊎ (x.pending ≡ true) ⊎ ((n : NodeName) × (x.tail ≡ Some n))
    by false a p q t u = inl a
    by true a true q t u = inr (inl q)
    by true a false q (Some n) u = inr (inr (n, u))
    by true a false q None u =
        absurd (let z : is_free x ≡ true = rw (a, q, u) refl in cc (z, h))

pub locked_not : (b : Locked) → is_unlocked b ≡ false → b ≢ Free
locked_not b h e = grind (arith, h, e)

pub uncleared : (y : RwFields) → is_cleared y ≡ false → y.waiting ≡ true → (0 < y.readers) ⊎ (y.writer ≡ true)
uncleared y h w = by y.writer refl y.readers refl
  where
    by : (b : Bool) → y.writer ≡ b → (n : ℕ) → y.readers ≡ n → (0 < y.readers) ⊎ (y.writer ≡ true)
    by true a n e = inr a
    by false a (suc n) e = inl (rw e (omega arith))
    by false a zero e = absurd (let z : is_cleared y ≡ true = rw (a, e, w) refl in cc (z, h))

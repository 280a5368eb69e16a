-- A processor whose newest call is about to make a row.
use Rattle.std.proofs.Common.{◌≡◌, ℕ, ◌<◌, ◌≤◌, List, [], ◌∷◌, length, Some, true, false, refl, sym}
use Rattle.std.proofs.Common.{ap, ◌∙◌, subst, arith}
use Rattle.lk_domain.proofs.Names.{LockHistory, Kind, LockName, Mode, Cna, Native, Pv, Virt}
use Rattle.lk_domain.proofs.Names.{first_place, Verb, Lock, RUnlock, Read, Try, TryRead, TryWrite}
use Rattle.lk_domain.proofs.Names.{Unlock, WUnlock, Write, if_cases, halts, IsSoundWorld, World}
use Rattle.lk_domain.proofs.Names.{AreFresh, AreHeld, ArePlaced, Begins, Calls, Hold, MayBegin}
use Rattle.lk_domain.proofs.Names.{Rests, Running, Stacked, acting, begin, begun, is_on, is_seeking}
use Rattle.lk_domain.proofs.Names.{lock_name, moved_to, running, kind_at, SeatFits, Plan}
use Rattle.lk_domain.proofs.Manners.{moved_held, moved_names, fresh_kept}
use Rattle.lk_domain.proofs.rows.Begun.{Acted, begins}
use Rattle.lk_domain.specs.Calls.{holds_begun}

-- the calls below the newest, which is about to make a row
abbrev pub RestsBelow : List Running → Type 0
RestsBelow [] = Unit {0}
RestsBelow (r ∷ rs) = Rests rs

-- the calls of a processor whose newest is about to make a row
pub record Poised (m : World) (p : ℕ) (c : Calls) : Type 0 where
  pub acted : Acted m p c
  pub stacked : Stacked c.frames
  pub few : length c.frames ≤ 6
  pub placed : ArePlaced c.frames
  pub below : RestsBelow c.frames
  pub held : AreHeld m.kind c.holds
  pub fresh : AreFresh c.frames c.holds
  pub single : halts m.mode ≡ true → length c.frames ≤ 1

rests_below : (rs : List Running) → Rests rs → RestsBelow rs
rests_below [] h = tt
rests_below (r ∷ rs) h = h.1

begun_held : (kind : ℕ → Kind) (v : Verb) (d l : ℕ) (hs : List Hold) → d < 6 → AreHeld kind hs
    → AreHeld kind (holds_begun v d l hs)
begun_held kind Unlock d l hs low h = moved_held kind d (lock_name l) hs low h
begun_held kind RUnlock d l hs low h = moved_held kind d (lock_name l) hs low h
begun_held kind WUnlock d l hs low h = moved_held kind d (lock_name l) hs low h
begun_held kind _ d l hs low h = h

-- a call that begins waits for a lock that its processor does not hold
begun_fresh : (mode : Mode) (c : Calls) (v : Verb) (l : ℕ) → MayBegin c v l
    → AreFresh c.frames c.holds
    → AreFresh (running v (begun mode (length c.frames) v l) [] ∷ c.frames) (holds_begun v (length c.frames) l c.holds)
begun_fresh mode c v l may are = by v may
  where
    moved : AreFresh c.frames (moved_to (length c.frames) (lock_name l) c.holds)
    moved =
        fresh_kept c.frames c.holds (moved_to (length c.frames) (lock_name l) c.holds)
        (λ x w h. moved_names (length c.frames) (lock_name l) c.holds x ∙ h) are

    released : (mode : Mode) → is_seeking (Some (first_place mode Unlock)) ≡ true → ⊥
    released Virt h = cc h
    released Native h = cc h
    released Cna h = cc h
    released Pv h = cc h

    by : (v : Verb) → MayBegin c v l
        → AreFresh (running v (begun mode (length c.frames) v l) [] ∷ c.frames) (holds_begun v (length c.frames) l c.holds)
    by Unlock may = (λ h. absurd (released mode h), moved)
    by RUnlock may = (λ h. absurd (let z : false ≡ true = h in cc z), moved)
    by WUnlock may = (λ h. absurd (let z : false ≡ true = h in cc z), moved)
    by Lock may = (λ _. may, are)
    by Try may = (λ _. may, are)
    by Read may = (λ _. may, are)
    by TryRead may = (λ _. may, are)
    by Write may = (λ _. may, are)
    by TryWrite may = (λ _. may, are)

pub poised : (k : Plan) (m : World) (hs : LockName → LockHistory) → IsSoundWorld m hs
    → m.kind ≡ kind_at k → m.mode ≡ k.mode → (p : ℕ) (c : Calls)
    → SeatFits m p c → (v : Verb) (l : ℕ) → Begins k c v l → Poised m p (acting k.mode c v l)
poised k m hs ok kinds is p c fits v l asks =
    if_cases (λ (x : Calls). Poised m p x) (is_on c.frames v l) c (begin k.mode c v l)
    (λ _. record {
      acted = record {
        world = m;
        histories = hs;
        sound = ok;
        mirrors = fits.mirrors;
        same = record { mode = refl; turns = refl; threshold = refl; format = refl; sockets = refl; kind = refl; word = refl; rw = refl; node = refl; queued = refl; entry = refl; halted = refl; kicked = refl };
        others = λ u ne. (refl, λ j. refl);
        attended = λ h. h;
      };
      stacked = fits.stacked;
      few = fits.few;
      placed = fits.placed;
      below = rests_below c.frames fits.rests;
      held = fits.held;
      fresh = fits.fresh;
      single = fits.single;
    })
    (λ off. let a = asks off in record {
      acted = subst (λ (x : Mode). Acted m p (begin x c v l)) is
          (begins m hs ok p c (λ on. a.3 (ap halts (sym is) ∙ on)) fits.mirrors fits.stacked fits.held fits.rests v l a.1 (ap (λ (g : ℕ → Kind). g l) kinds ∙ a.2));
      stacked = (refl, fits.stacked);
      few = let x = a.0 in omega arith;
      placed = (refl, fits.placed);
      below = fits.rests;
      held = begun_held m.kind v (length c.frames) l c.holds a.0 fits.held;
      fresh = begun_fresh k.mode c v l a.1 fits.fresh;
      single = λ on. let e = ap (λ (xs : List Running). length xs) (a.3 (ap halts (sym is) ∙ on)) in omega (arith, e);
    })

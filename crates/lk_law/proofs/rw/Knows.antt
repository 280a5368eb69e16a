-- What a sound world says of the word that a row of a reader or a writer meets.
use Rattle.std.proofs.Common.{◌≡◌, ℕ, ◌<◌, Some, true, false, List, [], ◌∷◌, length, slice_get}
use Rattle.std.proofs.Common.{arith, ap, refl, ◌∙◌}
use Rattle.lk_law.proofs.Names.{LockHistory, LockName, Waiter, Frame, Pc, R2, R3, R5, Wr5, Wr6, Y3}
use Rattle.lk_law.proofs.Names.{Z1, Z2, is_counted, rw_own_phase, World}
use Rattle.lk_law.proofs.{rw.Goes.rw_quiet, rw.Kept.{RwStands, rw_kind, rw_ok, rw_shown}}
use Rattle.lk_law.specs.RwKnown.{RwKnown, RwRowKnows}

some_in : {A : Type 0} (xs : List A) (i : ℕ) (x : A) → slice_get xs i ≡ Some x → 0 < length xs
some_in [] i x p = cc
some_in (y ∷ xs) i x p = omega arith

module _ {m : World} {hs : LockName → LockHistory} {w : Waiter} {f : Frame} {c : Pc}
    (at : RwStands m hs w f c) where
  counts : is_counted (rw_own_phase c) (m.held w (record { index = f.lock.index; wait = false }))
      ≡ true
      → 0 < (m.rw f.lock.index).readers
  counts e =
      let ok = rw_ok at in
      let p = ok.readers.each.place w
      (ap (λ r. is_counted r (m.held w (record { index = f.lock.index; wait = false })))
      (rw_shown at) ∙ e) in
      let some = some_in ok.counted p.0 w p.1 in
      let n = ok.readers.number in
      omega (arith, some, n)

  known : (d : Pc) → c ≡ d → RwKnown d (m.rw f.lock.index)
  known R2 e =
      counts
      (ap (λ (k : Pc).
      is_counted (rw_own_phase k) (m.held w (record { index = f.lock.index; wait = false }))) e)
  known R3 e =
      counts
      (ap (λ (k : Pc).
      is_counted (rw_own_phase k) (m.held w (record { index = f.lock.index; wait = false }))) e)
  known R5 e =
      counts
      (ap (λ (k : Pc).
      is_counted (rw_own_phase k) (m.held w (record { index = f.lock.index; wait = false }))) e)
  known Y3 e =
      counts
      (ap (λ (k : Pc).
      is_counted (rw_own_phase k) (m.held w (record { index = f.lock.index; wait = false }))) e)
  known Z1 e =
      let has = (rw_ok at).holds.unreads w (rw_shown at ∙ ap rw_own_phase e) in
      counts (ap (λ (k : Pc).
      is_counted (rw_own_phase k) (m.held w (record { index = f.lock.index; wait = false }))) e
      ∙ ap (is_counted (rw_own_phase Z1)) has)
  known Wr5 e = (rw_ok at).waiting.set w (rw_shown at ∙ ap rw_own_phase e)
  known Wr6 e = (rw_ok at).waiting.set w (rw_shown at ∙ ap rw_own_phase e)
  known Z2 e =
      (rw_ok at).holds.writes w ((rw_ok at).holds.unwrites w (rw_shown at ∙ ap rw_own_phase e))
  known _ e = tt

pub rw_row_knows : (c : Pc) → RwRowKnows c
rw_row_knows c m hs w f sound live place row =
    let at : RwStands m hs w f c =
    record {
      sound = sound;
      live = live;
      place = place;
      row = row;
      idle = (rw_quiet c row).phase;
      fast = (rw_quiet c row).fast;
    } in
    (rw_kind at, known at c refl)

-- What a front sees of a machine is what it sees of the world that the machine is by look-up.
use Rattle.std.proofs.Common.{◌≡◌, ◌≤◌, ◌<◌, ◌+◌, ℕ, zero, suc, Option, Some, None, false, List, []}
use Rattle.std.proofs.Common.{◌∷◌, arith, ap, refl, sym, ◌∙◌, length, slice_get, position, inl, inr}
use Rattle.std.proofs.Common.{nat_lt}
use Rattle.std.proofs.lemmas.Bool.{cond-true, cond-false, lt-ltb, le-ltb}
use Rattle.std.specs.{List.position_or_len, Prelude.unwrap_or}
use Rattle.lk_core.proofs.Names.{cases_Bool, cases_lt, NodeName, LockHistory, LockName, Waiter}
use Rattle.lk_core.proofs.Names.{Machine, is_node, node_of, sight_at, Frame, ShowsAll, world}
use Rattle.lk_names.specs.Lawful.{is_local}
use Rattle.lk_rows.specs.{Machine.{cpu_at, frame_at, node_at}, Moves.{context_of, waiter_of}}
use Rattle.lk_law.specs.Steps.{has_own, first_user, waiter_in, sight_in}
use Rattle.lk_core.proofs.Stands.{few_frames}

deeper : (n : NodeName) (g : ℕ → Option Frame) (c : ℕ) (x : Frame) (fs : List Frame)
    → ((i : ℕ) → g (c + i) ≡ slice_get (x ∷ fs) i) → (i : ℕ) → g (suc c + i) ≡ slice_get fs i
deeper n g c x fs at i = ap g (let e : suc c + i ≡ c + suc i = omega arith in e) ∙ at (suc i)

from_none : (i : ℕ) → 0 + i ≡ i
from_none i = omega arith

-- the first of these frames that has the node is found context by context
first_is : (n : NodeName) (g : ℕ → Option Frame) (c count : ℕ) (fs : List Frame)
    → length fs ≤ count → ((i : ℕ) → g (c + i) ≡ slice_get fs i)
    → position_or_len (λ f. is_node f.me n) fs < length fs
    → first_user g n c count ≡ c + position_or_len (λ f. is_node f.me n) fs
first_is n g c count [] few at some = absurd (omega (arith, some))
first_is n g c zero (x ∷ fs) few at some = absurd (omega (arith, few))
first_is n g c (suc count) (x ∷ fs) few at some =
    let here : has_own n (g c) ≡ is_node x.me n =
    ap (λ (i : ℕ). has_own n (g i)) (let e : c ≡ c + 0 = omega arith in e) ∙ ap (has_own n) (at 0) in
    elim (cases_Bool (is_node x.me n)) [
      | inl mine ↦ rw (here, mine) (omega arith)
      | inr other ↦
          let less : 1 + position_or_len (λ f. is_node f.me n) fs < suc (length fs) =
          rw other at some in
          let r =
          first_is n g (suc c) count fs (omega (arith, few)) (deeper n g c x fs at)
          (omega (arith, less)) in
          rw (here, other) (omega (arith, r))
    ]

-- and where none of them has it, none is found
none_is : (n : NodeName) (g : ℕ → Option Frame) (c count : ℕ) (fs : List Frame)
    → length fs ≤ count → ((i : ℕ) → g (c + i) ≡ slice_get fs i)
    → length fs ≤ position_or_len (λ f. is_node f.me n) fs → first_user g n c count ≡ 0
none_is n g c zero fs few at none = refl
none_is n g c (suc count) [] few at none =
    let here : has_own n (g c) ≡ false =
    ap (λ (i : ℕ). has_own n (g i)) (let e : c ≡ c + 0 = omega arith in e) ∙ ap (has_own n) (at 0) in
    rw here (none_is n g (suc c) count [] (omega arith)
    (λ i. ap g (let e : suc c + i ≡ c + suc i = omega arith in e) ∙ at (suc i)) (omega arith))
none_is n g c (suc count) (x ∷ fs) few at none =
    let here : has_own n (g c) ≡ is_node x.me n =
    ap (λ (i : ℕ). has_own n (g i)) (let e : c ≡ c + 0 = omega arith in e) ∙ ap (has_own n) (at 0) in
    elim (cases_Bool (is_node x.me n)) [
      | inl mine ↦ absurd (let no : suc (length fs) ≤ 0 = rw mine at none in omega (arith, no))
      | inr other ↦
          let less : suc (length fs) ≤ 1 + position_or_len (λ f. is_node f.me n) fs =
          rw other at none in
          rw (here, other) (none_is n g (suc c) count fs (omega (arith, few))
          (deeper n g c x fs at) (omega (arith, less)))
    ]

module _ (m : Machine) (hs : LockName → LockHistory) (shows : ShowsAll m hs) where
  -- the waiter of a node
  pub waiter_same : (n : NodeName) → waiter_in (world m) n ≡ waiter_of m n
  unfolding waiter_of context_of frame_at
  waiter_same n = (λ i. record { cpu = n.cpu; ctx = ctx i })
    where
      ctx : first_user (λ c. slice_get (cpu_at m n.cpu).frames c) n 0 6
          ≡ unwrap_or (position (λ f. is_node f.me n) (cpu_at m n.cpu).frames) 0
      ctx =
          let few = few_frames m hs shows n.cpu in
          let at = position_or_len (λ f. is_node f.me n) (cpu_at m n.cpu).frames in
          let size = length (cpu_at m n.cpu).frames in
          elim (cases_lt at size) [
            | inl some ↦
                first_is n (λ c. slice_get (cpu_at m n.cpu).frames c) 0 6
                (cpu_at m n.cpu).frames few (λ i. ap (slice_get (cpu_at m n.cpu).frames) (from_none i)) some
                ∙ from_none at
                ∙ sym (ap (λ (o : Option ℕ). unwrap_or o 0)
                (cond-true (nat_lt at size) (Some at) None (lt-ltb at size some)))
            | inr none ↦
                none_is n (λ c. slice_get (cpu_at m n.cpu).frames c) 0 6
                (cpu_at m n.cpu).frames few (λ i. ap (slice_get (cpu_at m n.cpu).frames) (from_none i)) none
                ∙ sym (ap (λ (o : Option ℕ). unwrap_or o 0)
                (cond-false (nat_lt at size) (Some at) None (le-ltb at size none)))
          ]

  -- what a front sees
  pub sight_same : (w : Waiter) (f : Frame) → sight_in (world m) w f ≡ sight_at m w.cpu f
  sight_same w f =
      (λ i. record {
        runs = (node_at m (node_of f.me)).runs;
        threshold = m.setup.threshold;
        local = λ n. is_local m.setup.format m.setup.topology.sockets.items w.cpu
            (waiter_same n i);
      })

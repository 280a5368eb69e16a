-- Who uses a node: the laws read a node of a waiter exactly where its frame has one.
use Rattle.std.proofs.Common.{◌≡◌, ◌<◌, ◌≤◌, ◌+◌, ℕ, zero, suc, Option, Some, None, Bool, true}
use Rattle.std.proofs.Common.{false, arith, ap, refl, sym, ◌∙◌, inl, inr, subst, if◌then◌else◌}
use Rattle.std.proofs.Common.{is_some}
use Rattle.lk_law.proofs.Names.{cases_Bool, cases_lt, NodeName, LockHistory, same_lock, LockName}
use Rattle.lk_law.proofs.Names.{Waiter, is_node, node_of, Frame, IsOwnNode, Phase, has_node, Idle}
use Rattle.lk_law.proofs.Names.{own_in, phase_of, phase_on, snapshot, Uses, IsSoundSpinWorld, World}
use Rattle.lk_law.proofs.{common.Before.nodes_apart, common.Puts.same_node-self}
use Rattle.lk_law.proofs.common.Worlds.{phase_on-here}
use Rattle.lk_law.specs.{Known.NodeIsOnes, Premises.IsShallow}
use Rattle.lk_law.specs.Steps.{has_own, first_user, waiter_in}

pub some_is : (o : Option NodeName) → is_some o ≡ true → o ≡ Some (node_of o)
some_is None h = cc
some_is (Some n) h = refl

pub is_node-true : (o : Option NodeName) (n : NodeName) → is_node o n ≡ true → o ≡ Some n
is_node-true None n h = cc
is_node-true (Some k) n h =
    let p : (k.cpu ≡ n.cpu) × (k.index ≡ n.index) = grind arith in
    (λ i. Some (record { cpu = p.0 i; index = p.1 i }))

pub is_node-own : (o : Option NodeName) → is_some o ≡ true → is_node o (node_of o) ≡ true
is_node-own None h = cc
is_node-own (Some n) h = same_node-self n

noded_if : (b : Bool) (r : Phase) → has_node (if b then r else Idle) ≡ true → has_node r ≡ true
noded_if true r h = h
noded_if false r h = cc

-- without a node the frame would have none
noded_by : (b : Bool) (me : Option NodeName) (n : NodeName) → me ≡ Some n → (b ≡ false → me ≡ None)
    → b ≡ true
noded_by true me n e bare = refl
noded_by false me n e bare = absurd (let none = bare refl in grind (arith, e, none))

module _ {m : World} {hs : LockName → LockHistory} (ok : IsSoundSpinWorld m hs) where
  -- who has a node for some lock uses the one that is shown as its own
  pub user_of : (l : LockName) (u : Waiter) → has_node ((snapshot m).phase l u) ≡ true
      → Uses m u ((snapshot m).own u)
  user_of l u noded = go (m.frame u) refl noded
    where
      go : (o : Option Frame) → m.frame u ≡ o → has_node (phase_on l o) ≡ true
          → Uses m u ((snapshot m).own u)
      go None e h = cc
      go (Some f) e h =
          let some = (ok.registers u f e).me (noded_if (same_lock f.lock l) (phase_of f) h) in
          (f, e, ap (λ (n : NodeName). is_node f.me n) (ap own_in e) ∙ is_node-own f.me some)

  -- and it is one of its processor's
  pub own_node : (l : LockName) (u : Waiter) → has_node ((snapshot m).phase l u) ≡ true
      → IsOwnNode u ((snapshot m).own u)
  own_node l u noded =
      let placed = ok.agrees.nodes.placed l u noded in
      let below = ok.agrees.nodes.below l u noded in
      record {
        cpu = ap (λ (n : NodeName). n.cpu) placed;
        index = let e = ap (λ (n : NodeName). n.index) placed in omega (arith, e, below);
      }

  -- who uses a node has it for the lock on which its frame acts, and it is shown as its own
  pub used_noded : (u : Waiter) (n : NodeName) → (uses : Uses m u n)
      → has_node ((snapshot m).phase uses.0.lock u) ≡ true
  used_noded u n uses =
      let f = uses.0 in
      let shown : (snapshot m).phase f.lock u ≡ phase_of f =
      ap (phase_on f.lock) uses.1 ∙ phase_on-here f.lock f refl in
      ap has_node shown
      ∙ noded_by (has_node (phase_of f)) f.me n (is_node-true f.me n uses.2)
      (ok.registers u f uses.1).bare

  pub used_own : (u : Waiter) (n : NodeName) → Uses m u n → (snapshot m).own u ≡ n
  used_own u n uses = ap own_in uses.1 ∙ ap node_of (is_node-true uses.0.me n uses.2)

pub node_is_ones : NodeIsOnes
node_is_ones m hs u v n ok at_u at_v =
    let own = used_own ok u n at_u in (
      nodes_apart ok.agrees.nodes at_u.0.lock at_v.0.lock u v (used_noded ok u n at_u)
          (used_noded ok v n at_v) (own ∙ sym (used_own ok v n at_v)),
      subst (IsOwnNode u) own (own_node ok at_u.0.lock u (used_noded ok u n at_u)),
    )

-- a frame that has the node is there
has_own-frame : (n : NodeName) (o : Option Frame) → has_own n o ≡ true
    → (f : Frame) × (o ≡ Some f) × (is_node f.me n ≡ true)
has_own-frame n None h = cc h
has_own-frame n (Some f) h = (f, refl, h)

-- the first context whose frame has the node is the only one
first_is : (frames : ℕ → Option Frame) (n : NodeName) (ctx c count : ℕ) → c ≤ ctx
    → ctx < c + count → has_own n (frames ctx) ≡ true
    → ((d : ℕ) → has_own n (frames d) ≡ true → d ≡ ctx) → first_user frames n c count ≡ ctx
first_is frames n ctx c zero le lt has only = absurd (omega (arith, le, lt))
first_is frames n ctx c (suc count) le lt has only =
    elim (cases_Bool (has_own n (frames c))) [
      | inl here ↦ rw here (only c here)
      | inr other ↦
          let ne : c ≡ ctx → ⊥ = λ e. cc (ap (λ (d : ℕ). has_own n (frames d)) e, other, has) in
          rw other (first_is frames n ctx (suc c) count
          (let apart = ne in grind (arith, le, apart)) (omega (arith, lt)) has only)
    ]

-- who uses a node is the waiter that a front finds of it
pub user_found : {m : World} {hs : LockName → LockHistory} → IsSoundSpinWorld m hs
    → ((p : ℕ) → IsShallow m p) → (u : Waiter) (n : NodeName) → Uses m u n → waiter_in m n ≡ u
user_found {m = m} {hs = hs} ok shallow u n uses = (λ i. record { cpu = cpu i; ctx = ctx i })
  where
    cpu : n.cpu ≡ u.cpu
    cpu = (node_is_ones m hs u u n ok uses uses).1.cpu

    -- the waiter of that context
    at : ℕ → Waiter
    at c = record { cpu = n.cpu; ctx = c }

    here : at u.ctx ≡ u
    here = (λ i. record { cpu = cpu i; ctx = u.ctx })

    low : u.ctx < 6
    low = elim (cases_lt u.ctx 6) [
      | inl lt ↦ lt
      | inr ge ↦ absurd (let none = shallow u.cpu u.ctx ge in cc (none, uses.1))
    ]

    ctx : first_user (λ c. m.frame (at c)) n 0 6 ≡ u.ctx
    ctx =
        first_is (λ c. m.frame (at c)) n u.ctx 0 6 (omega arith) (omega (arith, low))
        (ap (has_own n) (ap m.frame here ∙ uses.1) ∙ uses.2)
        (λ d has.
        let f = has_own-frame n (m.frame (at d)) has in
        ap (λ (v : Waiter). v.ctx) (node_is_ones m hs (at d) u n ok f uses).0)

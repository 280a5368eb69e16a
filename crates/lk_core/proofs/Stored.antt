-- A node that a row takes from a register and stores, in a word or in the hash, is the machine's.
use Rattle.std.proofs.Common.{◌≡◌, ◌<◌, ◌≤◌, ℕ, Option, Some, None, arith, sym, refl, subst, length}
use Rattle.lk_core.proofs.Names.{NodeName, LockHistory, LockName, Waiter, HasNode, Machine, node_of}
use Rattle.lk_core.proofs.Names.{Frame, Pc, C10, E6, G4, K3, named_front_is_used, IsOwnNode, Uses}
use Rattle.lk_core.proofs.Names.{ShowsAll, world, spin_part}
use Rattle.lk_word.proofs.SpinWordLemmas.{from_narrow}
use Rattle.lk_word.specs.{SpinWord.IsTailInRange, declared.spin_word.Layout.Layout}
use Rattle.lk_word.specs.declared.spin_word.Layout.TheVariants.{Narrow}
use Rattle.lk_rows.specs.{Layouts.layout_of, Machine.frame_at}
use Rattle.lk_machine.specs.Ready.{stored_name}
use Rattle.lk_law.proofs.{cna.Front.owner_tail, cna.Knows.{at_front, lists, phase_here, stage_here}}
use Rattle.lk_law.proofs.common.Users.{user_of, own_node}
use Rattle.lk_core.proofs.{Access.frame_within, Reach.own_here}

module _ (m : Machine) (hs : LockName → LockHistory) (shows : ShowsAll m hs) (w : Waiter)
    (f : Frame) (live : frame_at m w ≡ Some f) where
  abbrev layout : Layout
  layout = layout_of m.setup.format

  -- a node of the machine can stand in a word, in each layout
  near : (o : Option NodeName) → HasNode m (node_of o) → IsTailInRange Narrow o
  near None there = tt
  near (Some n) there =
      let cpus = shows.whole.cpus in
      let few = shows.whole.setup.few in
      let cpu : n.cpu ≤ 16382 = omega (arith, there.cpu, cpus, few) in
      let index : n.index ≤ 3 = omega (arith, there.index) in
      (cpu, index)

  named : (o : Option NodeName) → HasNode m (node_of o) → IsTailInRange layout o
  named o there = from_narrow layout o (near o there)

  -- the node of a waiter that uses it, as one of its processor's
  used_node : (u : Waiter) (n : NodeName) → Uses (world m) u n → IsOwnNode u n → HasNode m n
  used_node u n uses own =
      let there = frame_within m u uses.0 uses.1 in
      record { cpu = subst (λ (i : ℕ). i < length m.cpus) (sym own.cpu) there; index = own.index }

  -- the last of the second queue, which a front makes the tail
  promoted : f.place ≡ Some C10 → HasNode m (node_of f.t)
  promoted at =
      let ok = shows.world.spins in
      let u = owner_tail (lists ok live at refl) (at_front ok live at refl) (phase_here ok live at refl)
      (stage_here ok live at refl) (node_of f.t) refl in
      used_node u.by (node_of f.t)
      (subst (Uses (world m) u.by) u.owned (user_of ok f.lock u.by u.noded))
      (subst (IsOwnNode u.by) u.owned (own_node ok f.lock u.by u.noded))

  -- the node after which a holder looks
  looked_after : f.place ≡ Some K3 → HasNode m (node_of f.y)
  looked_after at =
      let u = named_front_is_used (world m) (spin_part (world m).kind hs) w f K3 shows.world.spins live at refl in
      used_node u.0 (node_of f.y) u.1 u.2

  pub stored_within : (c : Pc) → f.place ≡ Some c → IsTailInRange layout (stored_name c f)
  stored_within G4 at = named f.me (own_here m hs shows w f live G4 at refl)
  stored_within C10 at = named f.t (promoted at)
  stored_within E6 at = named f.me (own_here m hs shows w f live E6 at refl)
  stored_within K3 at = named f.y (looked_after at)
  stored_within _ at = tt

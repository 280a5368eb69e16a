-- Along a chain of waits the level rises.
use Rattle.std.proofs.Common.{◌≡◌, ℕ, zero, suc, ◌+◌, ◌<◌, ◌≤◌, Some, inl, inr, refl, sym, subst, arith}
use Rattle.std.proofs.lemmas.Bool.{cases_lt}
use Rattle.atomic_table.specs.Table.{State}
use Rattle.lk_names.specs.declared.names.LockName.{LockName}
use Rattle.lk_law.specs.World.{World}
use Rattle.lk_domain.specs.Keeps.{Slot}
use Rattle.lk_domain.specs.Runs.{Runs, waiter}
use Rattle.lk_domain.specs.declared.plan.Plan.{Plan}
use Rattle.lk_domain.specs.declared.view.View.{View}
use Rattle.lk_domain_law.specs.Circles.{Awaits, Has, Chain, one, more, AllAreBlocked, NoCircle, SomebodyIsFree}
use Rattle.lk_domain_law.specs.InOrder.{AreInOrder}
use Rattle.lk_domain_law.proofs.Ranks.{level, level_below, top_level, holds_lower}

module _ (rank : ℕ → ℕ) (k : Plan) (s : State Slot View) (st : Runs k s) (order : AreInOrder rank s) where
  abbrev m : World
  m = st.world

  abbrev at : LockName → ℕ
  at l = level rank k s st order l

  -- one that waits does so above all that it has
  rises : (q : ℕ) (l n : LockName) → Has m q l → Awaits m q n → at l < at n
  rises q l n has a =
      let held : m.held (waiter a.by.cpu has.0) l ≡ Some has.1 =
      subst (λ (p : ℕ). m.held (waiter p has.0) l ≡ Some has.1) (sym a.cpu) has.2 in
      let low : has.0 ≤ a.by.ctx = (elim (cases_lt a.by.ctx has.0) [
        | inl lt ↦ absurd (a.idle has.0 l has.1 lt has.2)
        | inr le ↦ le
      ]) in
      subst (λ (j : LockName). at l < at j) a.lock
      (holds_lower rank k s st order a.by a.frame a.row a.top a.poll (waiter a.by.cpu has.0) l has.1 refl low held)

  rise : (p : ℕ) (l : LockName) (q : ℕ) (n : LockName) → Chain m p l q n → at l < at n
  rise p l q n (one r j a has b) = rises r l j has b
  rise p l q n (more o r j i chain has b) =
      let first = rise p l o j chain in let behind = rises r j i has b in omega (arith, first, behind)

  -- from a wait for a lock a chain would climb for ever
  blocked : (n : ℕ) → AllAreBlocked m → (p : ℕ) (l : LockName) → top_level rank k s st order ≤ at l + n → Awaits m p l → ⊥
  blocked zero all p l far waits = let low = level_below rank k s st order l in omega (arith, low, far)
  blocked (suc n) all p l far waits =
      let next = all p l waits in
      let up = rises next.0 l next.1 next.2 next.3 in
      let near : top_level rank k s st order ≤ at next.1 + n = omega (arith, up, far) in
      blocked n all next.0 next.1 near next.3

pub no_circle : NoCircle
no_circle rank k s st order p l chain = let up = rise rank k s st.runs order p l p l chain in omega (arith, up)

pub somebody_is_free : SomebodyIsFree
somebody_is_free rank k s st order all p l waits =
    blocked rank k s st.runs order (top_level rank k s st.runs order) all p l (omega arith) waits

-- The marks of links where one is stored.
use Rattle.std.proofs.Common.{◌≡◌, ◌≢◌, inl, inr, ◌≤◌, Some, true, sym, ap, ◌∙◌, subst, arith, Bool}
use Rattle.std.proofs.Common.{false, List, ◌∷◌, length, suc, if◌then◌else◌}
use Rattle.lk_domain.proofs.Names.{NodeName, LockHistory, LockName, Waiter, node_cases, if-false}
use Rattle.lk_domain.proofs.Names.{if-true, same_node-else, same_node-self, halts, IsFree, Uses}
use Rattle.lk_domain.proofs.Names.{same_node, IsSoundSpinWorld, World, Running, Stacked, is_inner}
use Rattle.lk_law.proofs.running.Links.{linked_is_used}
use Rattle.lk_domain.proofs.rows.Users.{AreRight, KeepsMarks}

-- the marks of the links, where one is stored
abbrev pub remarked : NodeName → Bool → (NodeName → Bool) → NodeName → Bool
remarked a mark marks b = if same_node b a then mark else marks b

pub remarked_here : (a : NodeName) (mark : Bool) (marks : NodeName → Bool) → remarked a mark marks a ≡ mark
remarked_here a mark marks = if-true (same_node a a) mark (marks a) (same_node-self a)

pub remarked_else : (a : NodeName) (mark : Bool) (marks : NodeName → Bool) (b : NodeName) → b ≢ a
    → remarked a mark marks b ≡ marks b
remarked_else a mark marks b ne = if-false (same_node b a) mark (marks b) (same_node-else b a ne)

-- a link is stored to a node that is used, with the mark of the call that uses it
pub relinked : (m n : World) (hs : LockName → LockHistory) (marks : NodeName → Bool) (a : NodeName) (mark : Bool)
    → IsSoundSpinWorld m hs → (halts m.mode ≡ true → mark ≡ false) → AreRight m marks → (to : NodeName) → (n.node a).next ≡ Some to
    → ((b : NodeName) → b ≢ a → (n.node b).next ≡ (m.node b).next) → (IsFree m to → ⊥)
    → ((u : Waiter) → Uses m u to → mark ≡ is_inner u.ctx) → KeepsMarks m n (remarked a mark marks)
relinked m n hs marks a mark ok unmarked were to here others taken is =
    record {
      used = λ awake b c u uses next free. elim (node_cases b a) [
        | inl e ↦ taken (subst (IsFree m) (sym (to_is b c e next)) free)
        | inr ne ↦ let w = linked_is_used m hs u b c ok awake uses (sym (others b ne) ∙ next) in free w.0 w.1
      ];
      says = λ awake b c u w uses next there. elim (node_cases b a) [
        | inl e ↦ ap (remarked a mark marks) e ∙ (remarked_here a mark marks
            ∙ is w (subst (Uses m w) (sym (to_is b c e next)) there))
        | inr ne ↦ remarked_else a mark marks b ne ∙ were.says awake b c u w uses (sym (others b ne) ∙ next) there
      ];
      bare = λ on b. elim (node_cases b a) [
        | inl e ↦ ap (remarked a mark marks) e ∙ (remarked_here a mark marks ∙ unmarked on)
        | inr ne ↦ remarked_else a mark marks b ne ∙ were.bare on b
      ];
    }
  where
    to_is : (b c : NodeName) → b ≡ a → (n.node b).next ≡ Some c → to ≡ c
    to_is b c e next =
        let q : Some to ≡ Some c = sym here ∙ (ap (λ (d : NodeName). (n.node d).next) (sym e) ∙ next) in cc q

-- a call that is the only one of its processor is of context 0
pub alone : (xs : List Running) (x : Running) (rs : List Running) → xs ≡ x ∷ rs → Stacked xs → length xs ≤ 1
    → x.frame.ctx ≡ 0
alone xs x rs e stacked few =
    let count : length xs ≡ suc (length rs) = ap (λ (ys : List Running). length ys) e in
    let top = (subst Stacked e stacked).0 in omega (arith, count, top, few)

-- The last of a domain's processors is taken off.
use Rattle.std.proofs.Common.{◌≡◌, ℕ, ◌+◌, List, [], ◌∷◌, ◌++◌, length, refl, sym, ap, ◌∙◌, subst, arith}
use Rattle.std.specs.Prelude.{slice_index, slice_index_or}
use Rattle.std.proofs.lemmas.List.{get_or_push, get_or_append_left, length-append}
use Rattle.lk_domain.specs.Ends.{AllRest, Rests}
use Rattle.lk_domain.specs.Calls.{Calls}
use Rattle.lk_domain.specs.Ledgers.{Ledger}
use Rattle.lk_domain.specs.Plans.{IsSamePlan, share_of}
use Rattle.lk_domain.specs.Seats.{AreDealt, IsDealt, ledger_of}
use Rattle.lk_domain.specs.declared.cpu.Cpu.{Cpu}
use Rattle.lk_domain.specs.declared.domain.Domain.{Domain}
use Rattle.lk_domain.specs.declared.plan.Plan.{Plan}
use Rattle.lk_guard.specs.Idle.{IsIdle}

pub one_less : (all xs : List Cpu) (x : Cpu) → all ≡ xs ++ x ∷ [] → length xs + 1 ≡ length all
one_less all xs x is = sym (ap (λ (ys : List Cpu). length ys) is ∙ length-append xs (x ∷ []))

pub taken_off : (domain : Domain) (all xs : List Cpu) (x : Cpu) → AllRest domain all → all ≡ xs ++ x ∷ []
    → Rests domain (length xs) x
taken_off domain all xs x rest is =
    let n = one_less all xs x is in
    subst (Rests domain (length xs))
    (ap (λ (ys : List Cpu). slice_index_or ys (length xs) x) is ∙ get_or_push xs x x (length xs) refl)
    (rest (length xs) x (omega (arith, n)))

pub left_over : (domain : Domain) (all xs : List Cpu) (x : Cpu) → AllRest domain all → all ≡ xs ++ x ∷ []
    → AllRest domain xs
left_over domain all xs x rest is i d h =
    let n = one_less all xs x is in
    subst (Rests domain i)
    (ap (λ (ys : List Cpu). slice_index_or ys i d) is ∙ get_or_append_left xs (x ∷ []) d i h)
    (rest i d (omega (arith, n, h)))

-- the last of those that were dealt
pub dealt_last : (domain : Domain) (all xs : List Cpu) (x : Cpu) (i : ℕ) → AreDealt domain all → all ≡ xs ++ x ∷ []
    → length all ≡ i + 1 → IsDealt domain i x
dealt_last domain all xs x i dealt is long =
    let n = one_less all xs x is in
    let at : length xs ≡ i = (omega (arith, n, long)) in
    subst (λ (j : ℕ). IsDealt domain j x) at
    (subst (IsDealt domain (length xs))
    (ap (λ (ys : List Cpu). slice_index_or ys (length xs) x) is ∙ get_or_push xs x x (length xs) refl)
    (dealt (length xs) x (omega (arith, n))))

-- and the others
pub dealt_rest : (domain : Domain) (all xs : List Cpu) (x : Cpu) → AreDealt domain all → all ≡ xs ++ x ∷ []
    → AreDealt domain xs
dealt_rest domain all xs x dealt is i d h =
    let n = one_less all xs x is in
    subst (IsDealt domain i)
    (ap (λ (ys : List Cpu). slice_index_or ys i d) is ∙ get_or_append_left xs (x ∷ []) d i h)
    (dealt i d (omega (arith, n, h)))

-- who was dealt does nothing
pub idle : {domain : Domain} {i : ℕ} {cpu : Cpu} → IsDealt domain i cpu → IsIdle cpu
idle d =
    record {
      frames = ap (λ (c : Calls). c.frames) d.calls;
      holds = ap (λ (c : Calls). c.holds) d.calls;
      home = ap (λ (g : Ledger). g.out) d.ledger;
    }

-- and may write as many entries as the plan says
pub share_dealt : {domain : Domain} {i : ℕ} {cpu : Cpu} (plan : Plan) → IsSamePlan domain.plan plan → IsDealt domain i cpu
    → (ledger_of cpu).share ≡ share_of plan i
share_dealt {domain} {i} plan same d =
    ap (λ (g : Ledger). g.share) d.ledger ∙ ap (λ (ss : List ℕ). slice_index ss i) same.shares

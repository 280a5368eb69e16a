-- The words of a node.
use Rattle.std.proofs.Common.{◌≡◌, ◌≢◌, ◌⊎◌, inl, inr, ℕ, ◌<◌, Bool, true, false, refl, arith}
use Rattle.lk_domain.proofs.Names.{NodeName, Mode, Node, has_part, is_last, node_at, node_number}
use Rattle.lk_domain.proofs.Names.{part_index, stored_number, Part, Plan}
use Rattle.lk_rows.specs.Machine.{rest_node}
use Rattle.lk_domain.specs.Runs.{IsReset}
use Rattle.lk_domain.specs.declared.part.Part.TheVariants as part

-- nothing is reset where no word is
pub none_reset : (x : Node) → IsReset 0 x
none_reset x q h = absurd (omega arith)

-- at rest they are 0
pub rest_number : (q : Part) → node_number q rest_node ≡ 0
rest_number part.Flag = refl
rest_number part.Next = refl
rest_number part.SecondTail = refl
rest_number part.Runs = refl

-- a mark is one of a link, and where no node is named there is none

pub stored_zero : (b : Bool) (q : Part) → stored_number b q 0 ≡ 0
stored_zero b part.Flag = refl
stored_zero true part.Next = refl
stored_zero false part.Next = refl
stored_zero b part.SecondTail = refl
stored_zero b part.Runs = refl

pub stored_plain : (b : Bool) (q : Part) (i : ℕ) → q ≢ part.Next → stored_number b q i ≡ i
stored_plain b part.Flag i ne = refl
stored_plain b part.Next i ne = absurd (ne refl)
stored_plain b part.SecondTail i ne = refl
stored_plain b part.Runs i ne = refl

pub low : (q : Part) → part_index q < 4
low part.Flag = omega arith
low part.Next = omega arith
low part.SecondTail = omega arith
low part.Runs = omega arith

-- a word is known by its place
pub part_is : (q r : Part) → part_index q ≡ part_index r → q ≡ r
part_is part.Flag part.Flag e = refl
part_is part.Next part.Next e = refl
part_is part.SecondTail part.SecondTail e = refl
part_is part.Runs part.Runs e = refl
part_is part.Flag part.Next e = absurd (omega (arith, e))
part_is part.Flag part.SecondTail e = absurd (omega (arith, e))
part_is part.Flag part.Runs e = absurd (omega (arith, e))
part_is part.Next part.Flag e = absurd (omega (arith, e))
part_is part.Next part.SecondTail e = absurd (omega (arith, e))
part_is part.Next part.Runs e = absurd (omega (arith, e))
part_is part.SecondTail part.Flag e = absurd (omega (arith, e))
part_is part.SecondTail part.Next e = absurd (omega (arith, e))
part_is part.SecondTail part.Runs e = absurd (omega (arith, e))
part_is part.Runs part.Flag e = absurd (omega (arith, e))
part_is part.Runs part.Next e = absurd (omega (arith, e))
part_is part.Runs part.SecondTail e = absurd (omega (arith, e))

pub part_cases : (q r : Part) → (q ≡ r) ⊎ (q ≢ r)
part_cases part.Flag part.Flag = inl refl
part_cases part.Next part.Next = inl refl
part_cases part.SecondTail part.SecondTail = inl refl
part_cases part.Runs part.Runs = inl refl
part_cases part.Flag part.Next = inr (λ e. cc e)
part_cases part.Flag part.SecondTail = inr (λ e. cc e)
part_cases part.Flag part.Runs = inr (λ e. cc e)
part_cases part.Next part.Flag = inr (λ e. cc e)
part_cases part.Next part.SecondTail = inr (λ e. cc e)
part_cases part.Next part.Runs = inr (λ e. cc e)
part_cases part.SecondTail part.Flag = inr (λ e. cc e)
part_cases part.SecondTail part.Next = inr (λ e. cc e)
part_cases part.SecondTail part.Runs = inr (λ e. cc e)
part_cases part.Runs part.Flag = inr (λ e. cc e)
part_cases part.Runs part.Next = inr (λ e. cc e)
part_cases part.Runs part.SecondTail = inr (λ e. cc e)

-- the last word of a node stands behind the others that it has
pub below_last : (mode : Mode) (q r : Part) → is_last mode q ≡ true → has_part mode q ≡ true
    → has_part mode r ≡ true → r ≢ q → part_index r < part_index q
below_last mode part.Flag r h has too ne = cc h
below_last mode part.SecondTail r h has too ne = cc h
below_last mode part.Next part.Flag h has too ne = omega arith
below_last mode part.Next part.Next h has too ne = absurd (ne refl)
below_last mode part.Next part.SecondTail h has too ne = absurd (grind (arith, h, too))
below_last mode part.Next part.Runs h has too ne = absurd (grind (arith, h, too))
below_last mode part.Runs part.Flag h has too ne = omega arith
below_last mode part.Runs part.Next h has too ne = omega arith
below_last mode part.Runs part.SecondTail h has too ne = omega arith
below_last mode part.Runs part.Runs h has too ne = absurd (ne refl)

-- where two words stand at one place of a table, they are one
pub part_at : (k : Plan) (a b : NodeName) (q r : Part) → node_at k a q ≡ node_at k b r → q ≡ r
part_at k a b q r e = part_is q r (let x = low q in let y = low r in omega arith)

pub name_is : (k : Plan) (a b : NodeName) (q r : Part) → a.index < 4 → b.index < 4
    → node_at k a q ≡ node_at k b r → a ≡ b
name_is k a b q r ia ib e =
    let x = low q in let y = low r in
    let c : a.cpu ≡ b.cpu = omega arith in let i : a.index ≡ b.index = omega arith in
    (λ j. record { cpu = c j; index = i j })

-- what a private store makes of a node
abbrev pub reset_part : Part → Node → Node
reset_part part.Flag x = record x { flag = Rattle.lk_rows.specs.declared.parts.Flag.TheVariants.Unset }
reset_part part.Next x = record x { next = Rattle.std.proofs.Common.None }
reset_part part.SecondTail x = record x { second_tail = Rattle.std.proofs.Common.None }
reset_part part.Runs x = record x { runs = 0 }

pub reset_number : (q : Part) (x : Node) → node_number q (reset_part q x) ≡ 0
reset_number part.Flag x = refl
reset_number part.Next x = refl
reset_number part.SecondTail x = refl
reset_number part.Runs x = refl

pub reset_others : (q r : Part) (x : Node) → r ≢ q → node_number r (reset_part q x) ≡ node_number r x
reset_others part.Flag part.Flag x ne = absurd (ne refl)
reset_others part.Flag part.Next x ne = refl
reset_others part.Flag part.SecondTail x ne = refl
reset_others part.Flag part.Runs x ne = refl
reset_others part.Next part.Flag x ne = refl
reset_others part.Next part.Next x ne = absurd (ne refl)
reset_others part.Next part.SecondTail x ne = refl
reset_others part.Next part.Runs x ne = refl
reset_others part.SecondTail part.Flag x ne = refl
reset_others part.SecondTail part.Next x ne = refl
reset_others part.SecondTail part.SecondTail x ne = absurd (ne refl)
reset_others part.SecondTail part.Runs x ne = refl
reset_others part.Runs part.Flag x ne = refl
reset_others part.Runs part.Next x ne = refl
reset_others part.Runs part.SecondTail x ne = refl
reset_others part.Runs part.Runs x ne = absurd (ne refl)

-- The marks that a processor keeps are the locks that it holds.
use Rattle.std.proofs.Common.{◌≡◌, ◌≢◌, inl, inr, ℕ, ◌+◌, ◌-◌, ◌<◌, ◌≤◌, List, length, get_or, set}
use Rattle.std.proofs.Common.{replicate, Bool, true, false, refl, sym, ap, ◌∙◌, arith, length-set}
use Rattle.std.proofs.Common.{get_or-set_other, get_or-set_same, if◌then◌else◌}
use Rattle.std.proofs.{Math.Dec.ltb, lemmas.Bool.{ltb-false, ltb-true}}
use Rattle.std.proofs.lemmas.List.{get_or-replicate, get_or_past, length-replicate}
use Rattle.lk_domain.proofs.Names.{cases_Bool, dite, ℕ_discrete, Marks, far_with, near_with}
use Rattle.lk_domain.specs.declared.notes.TheConstants.{NEAR}

-- what stands at a place of a list that is written, and elsewhere
set_at : (ms : List Bool) (i j : ℕ) (b : Bool) → j < length ms → i ≡ j → get_or (set ms j b) i false ≡ b
set_at ms i j b lt e = ap (λ (y : ℕ). get_or (set ms j b) y false) e ∙ get_or-set_same ms j b false lt

module _ (near far : List Bool) (many : ℕ) (f g : ℕ → Bool) (l : ℕ) (b : Bool) (lt : l < many) (m : Marks near far many f)
    (here : g l ≡ b) (away : (x : ℕ) → x ≢ l → g x ≡ f x) where
  none : (x : ℕ) → many ≤ x → g x ≡ false
  none x high = away x (λ e. omega (arith, e, lt, high)) ∙ m.none x high

  near_set : l < NEAR → Marks (set near l b) far many g
  near_set low =
      record {
        short = length-set near l b ∙ m.short;
        long = m.long;
        first = λ x is. dite (ℕ_discrete x l)
            (λ e. set_at near x l b (let z = m.short in omega (arith, z, low)) e ∙ (sym here ∙ ap g (sym e)))
            (λ ne. get_or-set_other near l x b false ne ∙ (m.first x is ∙ sym (away x ne)));
        behind = λ x is. m.behind x is ∙ sym (away x (λ e. omega (arith, e, low, is)));
        none = none;
      }

  far_set : NEAR ≤ l → Marks near (set far (l - NEAR) b) many g
  far_set high =
      record {
        short = m.short;
        long = let z = m.long in let y = length-set far (l - NEAR) b in omega (arith, z, y);
        first = λ x is. m.first x is ∙ sym (away x (λ e. omega (arith, e, high, is)));
        behind = λ x is. dite (ℕ_discrete x l)
            (λ e. set_at far (x - NEAR) (l - NEAR) b (let z = m.long in omega (arith, z, high, lt)) (ap (λ (y : ℕ). y - NEAR) e)
            ∙ (sym here ∙ ap g (sym e)))
            (λ ne. get_or-set_other far (l - NEAR) (x - NEAR) b false (λ e. ne (omega (arith, e, high, is)))
            ∙ (m.behind x is ∙ sym (away x ne)));
        none = none;
      }

  pub mark_set : Marks (near_with near l b) (far_with far l b) many g
  mark_set = by (ltb l NEAR) refl
    where
      by : (c : Bool) → ltb l NEAR ≡ c → Marks (if c then set near l b else near) (if c then far else set far (l - NEAR) b) many g
      by true e = near_set (ltb-true l NEAR e)
      by false e = far_set (ltb-false l NEAR e)

pub mark_same : (near far : List Bool) (many : ℕ) (f g : ℕ → Bool) → Marks near far many f → ((x : ℕ) → g x ≡ f x)
    → Marks near far many g
mark_same near far many f g m same =
    record {
      short = m.short;
      long = m.long;
      first = λ x is. m.first x is ∙ sym (same x);
      behind = λ x is. m.behind x is ∙ sym (same x);
      none = λ x is. same x ∙ m.none x is;
    }

-- where no mark is set

none_set : (n i : ℕ) → get_or (replicate n false) i false ≡ false
none_set n i = elim (cases_Bool (ltb i n)) [
  | inl low ↦ get_or-replicate n i false false (ltb-true i n low)
  | inr high ↦ get_or_past (replicate n false) i false (let z = length-replicate n false in let y = ltb-false i n high in omega (arith, z, y))
]

pub marks_none : (far : List Bool) (many n : ℕ) → far ≡ replicate n false → many ≤ NEAR + n
    → Marks (replicate NEAR false) far many (λ l. false)
marks_none far many n is enough =
    record {
      short = length-replicate NEAR false;
      long = let z = ap (λ (ms : List Bool). length ms) is in let y = length-replicate n false in omega (arith, z, y, enough);
      first = λ l lt. none_set NEAR l;
      behind = λ l le. ap (λ (ms : List Bool). get_or ms (l - NEAR) false) is ∙ none_set n (l - NEAR);
      none = λ l high. refl;
    }

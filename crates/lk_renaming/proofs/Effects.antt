-- What a row does, renamed; and the tests that rows make of names.
use Rattle.std.proofs.Common.{◌≡◌, ℕ, Option, Some, None, Bool, true, false, map, inl, inr, ap}
use Rattle.std.proofs.Common.{refl, sym, ◌∙◌, eq-eqb, ne_eqb, if◌then◌else◌, ◌==◌, ◌&&◌, is_some}
use Rattle.std.proofs.Common.{option_map}
use Rattle.std.proofs.lemmas.Bool.{cases_eq}
use Rattle.lk_renaming.proofs.Names.{NodeName, is_node, node_of, A, B, Change, Effect, Enters, Goes}
use Rattle.lk_renaming.proofs.Names.{Lead, Passes, Prev, Says, Second, T, TargetIs, Y, Yields}
use Rattle.lk_renaming.proofs.Names.{renamed_link, renamed_name, IsRenaming, Renaming}
use Rattle.lk_rows.specs.Row.{Tell}
use Rattle.lk_renaming.specs.Renamed.{renamed_what}

-- effects

-- a register's new value
abbrev pub renamed_change : Renaming → Change → Change
renamed_change r (Prev n) = Prev (renamed_link r n)
renamed_change r (Second n) = Second (renamed_link r n)
renamed_change r (Y n) = Y (renamed_link r n)
renamed_change r (A n) = A (renamed_link r n)
renamed_change r (B n) = B (renamed_link r n)
renamed_change r (T n) = T (renamed_link r n)
renamed_change r (TargetIs n) = TargetIs (renamed_link r n)
renamed_change r change = change

-- where a row leads
abbrev pub renamed_lead : Renaming → Lead → Lead
renamed_lead r (Goes c cs) = Goes c (map (λ d. renamed_change r d) cs)
renamed_lead r (Enters me c) = Enters (renamed_link r me) c
renamed_lead r (Yields c cs) = Yields c (map (λ d. renamed_change r d) cs)
renamed_lead r lead = lead

-- what it tells
abbrev pub renamed_tell : Renaming → Tell → Tell
renamed_tell r (Says what) = Says (renamed_what r what)
renamed_tell r (Passes n k) = Passes (renamed_name r n) k
renamed_tell r tell = tell

-- what it does, where h renames the value that it stores
abbrev pub renamed_effect : {A : Type 0} → Renaming → (A → A) → Effect A → Effect A
renamed_effect r h o = record {
  stores = option_map h o.stores;
  leads = renamed_lead r o.leads;
  tells = renamed_tell r o.tells;
  counts = o.counts;
}

-- branches

-- where a test says the same, and each branch is the other's image, so is the choice
pub choose : {A B : Type 0} (g : A → B) (s t : Bool) (x y : A) (u v : B) → s ≡ t → u ≡ g x → v ≡ g y
    → (if s then u else v) ≡ g (if t then x else y)
choose {A} {B} g s t x y u v same one other = ap (λ b. if b then u else v) same ∙ by t
  where
    by : (b : Bool) → (if b then u else v) ≡ g (if b then x else y)
    by true = one
    by false = other

-- tests

pub some-renamed : (r : Renaming) (o : Option NodeName) → is_some (renamed_link r o) ≡ is_some o
some-renamed r None = refl
some-renamed r (Some n) = refl

-- a register that names a node
pub named : (r : Renaming) (o : Option NodeName) → is_some o ≡ true
    → node_of (renamed_link r o) ≡ renamed_name r (node_of o)
named r None some = cc
named r (Some n) some = refl

module _ (r : Renaming) (n : ℕ) (is : IsRenaming n r) where
  same_number : (p q : ℕ) → (r.to p == r.to q) ≡ (p == q)
  same_number p q =
      elim (cases_eq p q) [
        | inl e ↦ eq-eqb (r.to p) (r.to q) (ap (λ k. r.to k) e) ∙ sym (eq-eqb p q e)
        | inr ne ↦
            ne_eqb (r.to p) (r.to q) (λ e. ne (sym (is.undone p) ∙ ap (λ k. r.back k) e ∙ is.undone q))
            ∙ sym (ne_eqb p q ne)
      ]

  pub is_node-renamed : (o : Option NodeName) (k : NodeName)
      → is_node (renamed_link r o) (renamed_name r k) ≡ is_node o k
  is_node-renamed None k = refl
  is_node-renamed (Some j) k = ap (λ b. b && (j.index == k.index)) (same_number j.cpu k.cpu)

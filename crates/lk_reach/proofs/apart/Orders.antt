-- Orders of processors that are alike fit.
use Rattle.std.proofs.Common.{◌≡◌, ◌<◌, ◌≤◌, ℕ, zero, suc, true, get_or, List, [], ◌∷◌, ap, refl}
use Rattle.std.proofs.Common.{sym, ◌∙◌, arith, inl, inr, slice_index_or}
use Rattle.lk_reach.proofs.Names.{cases_lt, Act, at_rest, machine_after, Setup, renamed, Renaming}
use Rattle.lk_reach.proofs.Names.{Fits, IsPlaced, renaming_of, IsBegun, cpus_of, start_of, Plan}
use Rattle.lk_rows.specs.Programs.{handlers_of, program_at}
use Rattle.lk_renaming.proofs.Runs.{schedules_run_renamed}
use Rattle.lk_renaming.specs.Renaming.{IsFitting}
use Rattle.lk_reach.proofs.apart.Alike.{number_low, number_past}
use Rattle.lk_reach.specs.{Order.AreOwn, Peers.{AreFirsts, number_of}, declared.order.Order.Order}

-- each processor keeps its number
own_low : (p : ℕ) → p < 8 → get_or (0 ∷ 1 ∷ 2 ∷ 3 ∷ 4 ∷ 5 ∷ 6 ∷ 7 ∷ []) p p ≡ p
own_low zero low = refl
own_low (suc zero) low = refl
own_low (suc (suc zero)) low = refl
own_low (suc (suc (suc zero))) low = refl
own_low (suc (suc (suc (suc zero)))) low = refl
own_low (suc (suc (suc (suc (suc zero))))) low = refl
own_low (suc (suc (suc (suc (suc (suc zero)))))) low = refl
own_low (suc (suc (suc (suc (suc (suc (suc zero))))))) low = refl
own_low (suc (suc (suc (suc (suc (suc (suc (suc p)))))))) low = absurd (omega (arith, low))

pub own_all : AreOwn (0 ∷ 1 ∷ 2 ∷ 3 ∷ 4 ∷ 5 ∷ 6 ∷ 7 ∷ [])
own_all p = elim (cases_lt p 8) [
  | inl low ↦ number_low (0 ∷ 1 ∷ 2 ∷ 3 ∷ 4 ∷ 5 ∷ 6 ∷ 7 ∷ []) p low ∙ own_low p low
  | inr high ↦ number_past (0 ∷ 1 ∷ 2 ∷ 3 ∷ 4 ∷ 5 ∷ 6 ∷ 7 ∷ []) p high
]

-- who keeps its number is like itself
pub own_fitting : (setup : Setup) (n : ℕ) (o : Order) → AreOwn o.to → AreOwn o.back → IsFitting setup n (renaming_of o)
own_fitting setup n o to back = record {
  is = record {
    undone = λ p. ap (λ q. number_of o.back q) (to p) ∙ back p;
    redone = λ p. ap (λ q. number_of o.to q) (back p) ∙ to p;
    others = λ p high. to p;
  };
  alike = record {
    programs = λ p h. ap (λ q. program_at setup q h) (to p);
    handlers = λ p. ap (λ q. handlers_of setup q) (to p);
    sockets = λ p. ap (λ q. slice_index_or setup.topology.sockets.items q 0) (to p);
  };
}

module _ (setup : Setup) (firsts : List ℕ) (o : Order) (peers : AreFirsts setup firsts) (few : cpus_of setup ≤ 8)
    (placed : (p : ℕ) → p < 8 → IsPlaced firsts (cpus_of setup) o p) where
  undone : (p : ℕ) → number_of o.back (number_of o.to p) ≡ p
  undone p = elim (cases_lt p 8) [
    | inl low ↦ (placed p low).undone
    | inr high ↦ ap (λ q. number_of o.back q) (number_past o.to p high) ∙ number_past o.back p high
  ]

  redone : (p : ℕ) → number_of o.to (number_of o.back p) ≡ p
  redone p = elim (cases_lt p 8) [
    | inl low ↦ (placed p low).redone
    | inr high ↦ ap (λ q. number_of o.to q) (number_past o.back p high) ∙ number_past o.to p high
  ]

  others : (p : ℕ) → cpus_of setup ≤ p → number_of o.to p ≡ p
  others p high = elim (cases_lt p 8) [
    | inl low ↦ (placed p low).others high
    | inr past ↦ number_past o.to p past
  ]

  -- what is the same of a processor and of one that is like it
  module _ {A : Type 0} (f : ℕ → A) (same : (p : ℕ) → p < cpus_of setup → f (number_of firsts p) ≡ f p) where
    same_at : (p : ℕ) → f (number_of o.to p) ≡ f p
    same_at p = elim (cases_lt p (cpus_of setup)) [
      | inr high ↦ ap f (others p high)
      | inl low ↦
          let at = placed p (omega (arith, low, few)) in
          sym (same (number_of o.to p) (at.within low)) ∙ ap f (at.peer low) ∙ same p low
    ]

  pub placed_fitting : IsFitting setup (cpus_of setup) (renaming_of o)
  placed_fitting = record {
    is = record { undone = undone; redone = redone; others = others };
    alike = record {
      programs = λ p h. same_at (λ q. program_at setup q h) (λ q low. (peers q).programs h) p;
      handlers = same_at (λ q. handlers_of setup q) (λ q low. (peers q).handlers);
      sockets = same_at (λ q. slice_index_or setup.topology.sockets.items q 0) (λ q low. (peers q).sockets);
    };
  }

-- at rest processors that are alike may change places
pub fits_at_rest : (plan : Plan) (setup : Setup) (r : Renaming) → IsBegun plan setup → plan.folds ≡ true
    → IsFitting setup (cpus_of setup) r → Fits plan setup r
fits_at_rest plan setup r begun folds fits =
    let rest : start_of plan setup ≡ at_rest setup =
    ap (λ (acts : List Act). machine_after (at_rest setup) acts) (begun.folds folds).rest in
    record {
      fits = fits;
      starts =
          ap (λ m. renamed r m) rest ∙ sym (schedules_run_renamed r setup [] begun.lawful tt fits.is fits.alike).state ∙ sym rest;
    }

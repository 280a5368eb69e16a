-- The row F1 of a call of `lock`, by what it met.
use Rattle.std.proofs.Common.{◌≡◌, ◌≢◌, ℕ, Bool, Option, false, refl, sym, subst}
use Rattle.lk_run.proofs.Names.{Spins, LockName, Lock, after_fast, Word, waits_in, Any, IsOf}
use Rattle.lk_run.proofs.Names.{KeepsRest, calls_of, Cpu, Domain, Holds, Waits, starting}
use Rattle.lk_domain.specs.Seats.{Made}
use Rattle.lk_run.proofs.Places.{free_by, held_by, met_by, not_fast}
use Rattle.lk_run.specs.Phases.{Arrives}
use Rattle.lk_run.proofs.Rows as row
use Rattle.lk_run.proofs.Stepped as way

module _ (d : Domain) (n : LockName) (plain : n.wait ≡ false) (a b : Cpu) (rest : KeepsRest a b) (of : IsOf a d)
    (fresh : waits_in (calls_of a).frames n.index ≡ false) (met : ℕ) (step : Made Lock n.index a met b) (nests : Bool)
    (told : Option ℕ) where
  pub takes : met ≡ 0 → Holds d Lock n.index Spins (starting a nests told) b told
  takes is =
      let made = step.by in
      way.first_takes d Lock n.index a b rest of refl (λ e. cc e) (Word made.found)
      (way.first_word d Lock n a b rest of made fresh) nests told refl refl
      (λ f. row.fast_takes d.plan.mode b.number f made.found (free_by _ met made.found made.word is))

  pub arrives : met ≢ 0 → Arrives d Lock n met (starting a nests told) b told
  arrives other =
      let made = step.by in
      let packed = met_by d a b of step in
      record {
        found = made.found;
        packs = packed.packs;
        word = packed.word;
        waits = subst (λ z. Waits d Lock z (after_fast d.plan.mode made.found) Any (starting a nests told) b told)
            (λ i. record { index = n.index; wait = sym plain i })
            (way.first_goes d Lock n.index a b rest of refl (λ e. cc e) (Word made.found)
            (way.first_word d Lock n a b rest of made fresh) nests told
            (after_fast d.plan.mode made.found) (not_fast d.plan.mode made.found)
            (λ f. row.fast_goes d.plan.mode b.number f made.found (held_by _ met made.found made.word other)));
      }

-- Fewer states are enough.
use Rattle.std.proofs.Common.{◌≡◌, ℕ, Bool, Option, Some, None, List, [], ◌∷◌}
use Rattle.std.proofs.Common.{ap, refl, sym, ◌∙◌, subst}
use Rattle.lk_names.specs.declared.events.Act.{Act}
use Rattle.lk_names.specs.declared.events.Event.{Event}
use Rattle.lk_rows.specs.declared.setup.Setup.{Setup}
use Rattle.lk_rows.specs.Machine.{Machine}
use Rattle.lk_rows.specs.Row.{Answer}
use Rattle.lk_rows.specs.Acts.{next}
use Rattle.lk_idle.specs.Alike.{AreAlike, bared}
use Rattle.lk_renaming.specs.Renaming.{Renaming, IsRenaming, composed, reversed}
use Rattle.lk_renaming.specs.Renamed.{renamed, renamed_act, renamed_event, renamed_told}
use Rattle.lk_renaming.proofs.Composed.{twice}
use Rattle.lk_renaming.proofs.Bared.{alike_stays}
use Rattle.lk_reach.specs.declared.plan.Plan.{Plan}
use Rattle.lk_reach.specs.Kinds.{kind_value}
use Rattle.lk_reach.specs.Reach.{IsBegun, IsMove, AreMoves, IsReached, after, bare, cpus_of}
use Rattle.lk_reach.specs.Reach.{run, start_of}
use Rattle.lk_reach.proofs.Closed.{reached_alike, reached_start, reached_then, run_bare}
use Rattle.lk_reach.proofs.Folded.{act_back, after_renamed, back_fits, both_fit, goes, is_for, kind_renamed, laws}
use Rattle.lk_reach.proofs.Folded.{makes_back, makes_there, many, move_renamed, over_back, over_there, reached_renamed}
use Rattle.lk_reach.proofs.Likeness.{after_alike, makes_alike, over_alike}
use Rattle.lk_fold.specs.Fold.{HasStandIn, Covers, SmallSpaceIsEnough, StandInsTell, TellsKind}

module _ (plan : Plan) (setup : Setup) (begun : IsBegun plan setup) where
  module _ (known : Machine → Bool) (covers : Covers plan setup known) where
    further : (s : Machine) → IsReached plan setup s → HasStandIn plan setup known s → (a : Act)
        → IsMove plan.extras setup a → HasStandIn plan setup known (after s a)
    further s reached st a move =
        let r = st.renaming in
        let t = st.state in
        let b = renamed_act (reversed r) a in
        let it = covers.closed t b st.is st.reached (move_renamed plan setup begun (reversed r) (back_fits plan setup begun r st.fits) a move) in
        let u = it.state in
        let q = it.renaming in
        let two : renamed r (renamed q u) ≡ renamed (composed r q) u =
        twice r q u (subst (λ (n : ℕ). IsRenaming n q) (sym (many plan setup begun u it.reached)) it.fits.fits.is) in
        let over : renamed r (after t b) ≡ after (renamed r t) a =
        sym (after_renamed plan setup begun r st.fits t st.reached b)
        ∙ ap (λ c. after (renamed r t) c) (act_back r (cpus_of setup) st.fits.fits.is a) in
        let on : AreAlike (after (renamed r t) a) (after s a) =
        after_alike (renamed r t) s st.alike a
        (reached_alike laws plan setup begun (renamed r t) s a (reached_renamed plan setup begun r st.fits t st.reached) reached st.alike) in
        record {
          state = u;
          is = it.is;
          reached = it.reached;
          renaming = composed r q;
          fits = both_fit plan setup begun r q st.fits it.fits;
          alike =
              ap (λ m. bared m) (sym two) ∙ alike_stays r (renamed q u) (after t b) it.alike
              ∙ ap (λ m. bared m) over ∙ on;
        }

    cover : (acts : List Act) (s : Machine) → IsReached plan setup s → HasStandIn plan setup known s
        → AreMoves plan.extras setup acts → HasStandIn plan setup known (run s acts)
    cover [] s reached st moves = st
    cover (a ∷ acts) s reached st moves =
        cover acts (after s a) (reached_then laws plan setup begun s a reached moves.0) (further s reached st a moves.0) moves.1

pub small_space_is_enough : SmallSpaceIsEnough
small_space_is_enough plan setup known acts begun covers moves =
    subst (λ (m : Machine). HasStandIn plan setup known m) (run_bare acts (start_of plan setup))
    (cover plan setup begun known covers acts (bare (start_of plan setup)) (reached_start laws plan setup begun) covers.start moves)

-- what is told under new numbers is told before
told_before : (plan : Plan) (setup : Setup) (r : Renaming) (t : Machine) (b : Act) → IsMove plan.extras setup b → (e : Event)
    → (o : Option Event) → (next t b).1 ≡ o → renamed_told r o ≡ Some e → TellsKind plan setup t e
told_before plan setup r t b move e None here told = absurd (let z : None ≡ Some e = told in cc z)
told_before plan setup r t b move e (Some x) here told =
    let same : renamed_event r x ≡ e = (let z : Some (renamed_event r x) ≡ Some e = told in cc z) in
    record {
      act = b;
      move = move;
      event = x;
      tells = here;
      kind = sym (kind_renamed r x.what) ∙ ap (λ (y : Event). kind_value y.what) same;
    }

pub stand_ins_tell : StandInsTell
stand_ins_tell plan setup known s begun reached it =
    let r = it.renaming in
    let t = it.state in
    let is = is_for plan setup begun r it.fits t it.reached in
    let back_is = is_for plan setup begun (reversed r) (back_fits plan setup begun r it.fits) t it.reached in
    let there = reached_renamed plan setup begun r it.fits t it.reached in
    record {
      rows = λ row x. makes_back r t is back_is row (makes_alike s (renamed r t) (sym it.alike) row x);
      made = λ row x. makes_alike (renamed r t) s it.alike row (makes_there r t is back_is row x);
      over = λ x. over_back r t is back_is (over_alike s (renamed r t) (sym it.alike) x);
      ends = λ x. over_alike (renamed r t) s it.alike (over_there r t is back_is x);
      events = λ a e move told.
          let b = renamed_act (reversed r) a in
          let on = reached_alike laws plan setup begun (renamed r t) s a there reached it.alike in
          told_before plan setup r t b (move_renamed plan setup begun (reversed r) (back_fits plan setup begun r it.fits) a move) e
          (next t b).1 refl
          (sym (ap (λ (x : Answer). x.1) (goes plan setup begun r it.fits t it.reached b))
          ∙ ap (λ c. (next (renamed r t) c).1) (act_back r (cpus_of setup) it.fits.fits.is a) ∙ on.tells ∙ told);
    }

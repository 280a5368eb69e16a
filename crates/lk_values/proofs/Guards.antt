-- What each step makes of values under locks.
use Rattle.std.proofs.Common.{◌≡◌, inl, inr, ⊎_elim, ℕ, zero, suc, ◌+◌, ◌<◌, ◌≤◌, List, [], ◌∷◌}
use Rattle.std.proofs.Common.{map, length, set, refl, sym, ap, subst, ◌∙◌, arith, length-set}
use mathlib.Core.Logic.{dite}
use mathlib.Core.Option.{Option, none, some, some-ne-none, some-injective}
use native.Mathlib.Decide.{ℕ_discrete}
use lib.ListN.{get_elem?}
use Rattle.atomic_table.proofs.Lists.{at_set, set_here, set_else, at_longer, at_snoc, at_map}
use Rattle.lk_values.specs.Guarded.{Among, IsHome, IsAway, Guarded, KeepsRights}
use Rattle.lk_values.specs.Guarded.{AreFit}
use Rattle.lk_values.specs.Laws as law

-- an item that was there, and is replaced
pub set_at : {A : Type 0} (xs : List A) (i : ℕ) (a b : A) → get_elem? xs i ≡ some a
    → get_elem? (set xs i b) i ≡ some b
set_at [] i a b e = absurd (some-ne-none a (sym e))
set_at (x ∷ xs) zero a b e = refl
set_at (x ∷ xs) (suc i) a b e = set_at xs i a b e

module _ {S V : Type 0} (own locks : ℕ) (alone : ℕ → V → Type 0) (outs : V → List ℕ)
    (fits : ℕ → S → Type 0) where
  abbrev Safe : List (Option S) → List V → Type 0
  Safe = Guarded own locks alone outs fits

  pub one_has_it : law.OneHasIt own locks alone outs fits
  one_has_it homes views l i j v u safe only a b hv hu =
      only l i j v u a b (safe.rights i v l a hv) (safe.rights j u l b hu)

  pub holder_finds : law.HolderFinds own locks alone outs fits
  holder_finds homes views l id v safe only me low has fresh =
      ⊎_elim (λ h. h)
      (λ (o : IsAway outs views l).
      let same : id ≡ o.seat = only l id o.seat v o.view me o.here has (safe.rights o.seat o.view l o.here o.has) in
      let is : v ≡ o.view =
      some-injective v o.view (sym me ∙ (ap (λ (i : ℕ). get_elem? views i) same ∙ o.here)) in
      absurd (fresh (subst (λ (z : V). Among l (outs z)) (sym is) o.has)))
      (safe.place l low)

  -- the rights after one view is another
  rights_set : (homes : List (Option S)) (views : List V) (id : ℕ) (w : V) → Safe homes views
      → ((l : ℕ) → Among l (outs w) → alone l w)
      → (j : ℕ) (u : V) (l : ℕ) → get_elem? (set views id w) j ≡ some u → Among l (outs u) → alone l u
  rights_set homes views id w safe mine j u l at among =
      ⊎_elim
      (λ h. subst (alone l) h.1 (mine l (subst (λ (z : V). Among l (outs z)) (sym h.1) among)))
      (λ h. safe.rights j u l h.1 among)
      (at_set views id j w u at)

  -- a value that was out is still out, where its seat keeps it
  away_set : (views : List V) (id : ℕ) (v w : V) (l : ℕ) → get_elem? views id ≡ some v
      → (Among l (outs v) → Among l (outs w)) → IsAway outs views l → IsAway outs (set views id w) l
  away_set views id v w l me kept o =
      dite (ℕ_discrete o.seat id)
      (λ is. record {
        seat = id;
        view = w;
        here = set_at views id v w me;
        has =
            let same : o.view ≡ v =
            some-injective o.view v (sym o.here ∙ (ap (λ (i : ℕ). get_elem? views i) is ∙ me)) in
            kept (subst (λ (z : V). Among l (outs z)) same o.has);
      })
      (λ ne. record { seat = o.seat; view = o.view; here = set_else views id o.seat w ne ∙ o.here; has = o.has })

  -- a step that leaves the slots of values, whatever it does with the table's own
  pub step_leaves : (homes after : List (Option S)) (views : List V) (id : ℕ) (v w : V)
      → Safe homes views → length after ≡ length homes
      → ((l : ℕ) → l < locks → get_elem? after (own + l) ≡ get_elem? homes (own + l))
      → get_elem? views id ≡ some v → KeepsRights alone outs v w → Safe after (set views id w)
  step_leaves homes after views id v w safe long same me keeps =
      record {
        room = let r = safe.room in omega (arith, r, long);
        rights = rights_set homes views id w safe
            (λ l among. let old = subst (Among l) keeps.same among in keeps.rights l old (safe.rights id v l me old));
        place = λ l low.
            ⊎_elim
            (λ (h : IsHome own fits homes l). inl (record { value = h.value; home = same l low ∙ h.home; meets = h.meets }))
            (λ (o : IsAway outs views l). inr (away_set views id v w l me (subst (Among l) (sym keeps.same)) o))
            (safe.place l low);
      }

  pub step_keeps : law.StepKeeps own locks alone outs fits
  step_keeps homes views id v w safe me keeps =
      step_leaves homes homes views id v w safe refl (λ l low. refl) me keeps

  pub taking_keeps : law.TakingKeeps own locks alone outs fits
  taking_keeps homes views l id v w safe me low has out kept =
      record {
        room = let r = safe.room in let long = length-set homes (own + l) none in omega (arith, r, long);
        rights = rights_set homes views id w safe
            (λ k among. ⊎_elim (λ e. kept k (subst (λ (x : ℕ). alone x v) (sym e) has))
            (λ old. kept k (safe.rights id v k me old)) (subst (Among k) out among));
        place = λ k below. dite (ℕ_discrete k l)
            (λ is. inr (record {
              seat = id;
              view = w;
              here = set_at views id v w me;
              has = subst (Among k) (sym out) (inl is);
            }))
            (λ ne. ⊎_elim
            (λ (h : IsHome own fits homes k). inl (record {
              value = h.value;
              home = set_else homes (own + l) (own + k) none (λ e. ne (omega arith)) ∙ h.home;
              meets = h.meets;
            }))
            (λ (o : IsAway outs views k). inr (away_set views id v w k me (λ old. subst (Among k) (sym out) (inr old)) o))
            (safe.place k below));
      }

  pub bringing_keeps : law.BringingKeeps own locks alone outs fits
  bringing_keeps homes views l id v w x safe me low meets out kept =
      record {
        room = let r = safe.room in let long = length-set homes (own + l) (some x) in omega (arith, r, long);
        rights = rights_set homes views id w safe
            (λ k among. kept k (safe.rights id v k me (subst (Among k) (sym out) (inr among))));
        place = λ k below. dite (ℕ_discrete k l)
            (λ is. inl (record {
              value = x;
              home =
                  ap (λ (n : ℕ). get_elem? (set homes (own + l) (some x)) (own + n)) is
                  ∙ set_here homes (own + l) (some x) (let r = safe.room in omega (arith, r, low));
              meets = subst (λ (n : ℕ). fits n x) (sym is) meets;
            }))
            (λ ne. ⊎_elim
            (λ (h : IsHome own fits homes k). inl (record {
              value = h.value;
              home = set_else homes (own + l) (own + k) (some x) (λ e. ne (omega arith)) ∙ h.home;
              meets = h.meets;
            }))
            (λ (o : IsAway outs views k). inr (away_set views id v w k me
            (λ old. ⊎_elim (λ e. absurd (ne e)) (λ z. z) (subst (Among k) out old)) o))
            (safe.place k below));
      }

  pub new_seat_keeps : law.NewSeatKeeps own locks alone outs fits
  new_seat_keeps homes views v safe none_out =
      record {
        room = safe.room;
        rights = λ j u l at among.
            ⊎_elim
            (λ old. safe.rights j u l old among)
            (λ is. absurd (subst (Among l) none_out (subst (λ (z : V). Among l (outs z)) (sym is) among)))
            (at_snoc views v u j at);
        place = λ l low. ⊎_elim (λ h. inl h)
            (λ (o : IsAway outs views l). inr (record {
              seat = o.seat;
              view = o.view;
              here = at_longer views (v ∷ []) o.seat o.view o.here;
              has = o.has;
            }))
            (safe.place l low);
      }

  pub idle_is_home : law.IdleIsHome own locks alone outs fits
  idle_is_home homes views l safe idle low =
      ⊎_elim (λ h. h)
      (λ (o : IsAway outs views l). absurd (idle l o.seat o.view o.here (safe.rights o.seat o.view l o.here o.has)))
      (safe.place l low)

  -- at the start each value is at home
  pub starts : (xs : List S) (v : V) → own + locks ≤ length xs → AreFit own locks fits xs → outs v ≡ []
      → Safe (map some xs) (v ∷ [])
  starts xs v long fit none_out =
      record {
        room = let e = map_long xs in omega (arith, e, long);
        rights = λ j u l at among. absurd (nothing j u l at among);
        place = λ l low. let t = fit l low in
            inl (record { value = t.0; home = at_map some xs (own + l) t.0 t.1; meets = t.2 });
      }
    where
      map_long : (ys : List S) → length (map some ys) ≡ length ys
      map_long [] = refl
      map_long (y ∷ ys) = ap (λ (n : ℕ). suc n) (map_long ys)

      nothing : (j : ℕ) (u : V) (l : ℕ) → get_elem? (v ∷ []) j ≡ some u → Among l (outs u) → ⊥
      nothing zero u l at among =
          subst (Among l) none_out (subst (λ (z : V). Among l (outs z)) (sym (some-injective v u at)) among)
      nothing (suc j) u l at among = absurd (some-ne-none u (sym at))

-- `unpack`: the parcel's right to the value is what the call asks for, and its answer is the box.
use mathlib.Core.Path.{◌≡◌, refl, sym, subst, ap}
use mathlib.Core.List.{List, [], ◌∷◌, ◌++◌}
use lib.Dec.{T}
use mir.Syntax.{Body, a_type, dcons, dnil, seq, assign, place, rv_opd, copy, return}
use mir.MapTy.{inst_fn}
use mir.Val.{Val, vptr, has_ty, WT}
use base.Logic.{SProp, ent, id⊢}
use base.Fml.{ftrue, fsep, flft}
use prog.Wp.{WpFn}
use types.Kit.{Item, ‵, raw, ◌⊛◌, some, later, at_ret, ◌$◌, ◌∵◌, !, qed, move, drop, use1, join, split, split3, pick, rewrite, fsplit, fjoin, feq_i, suffices, await, done}
use types.Part.{whole, sub}
use types.Run.{stop, fld, no_more, and_then, of_opd, returns, enter, first, blocks, exec}
use types.ByLocal.{alloc_all, pass_all, free_all, look_at, get, get_in, sets, lands_last, env}
use contract.BorrowLft.{◌⊑◌}
use contract.Monad.{fact}
use contract.Running.{tables}
use denote.Exit.{no}
use denote.Param.{bounded}
use denote.RattleType.{owns}
use denote.RawPtr.{block_ptr}
use denote.Signature.{plain, types_at}
use denote.Steps.{heard, nothing, only}
use denote.Triple.Call.{calls_at_last}
use denote.Triple.Spec.{triple_of}
use denote.Triple.Table.{framed}
use denote.Triple.Walked.{says, Stays, stay_dropped, walk_of, ends_at}
use Rattle.std.proofs.alloc.Calls.{Goes-blank}
use Rattle.std.proofs.raw_atomic.Walks.{proved_at}
use Rattle.std.proofs.BoxSteps.Form.{Bx, D, B, box_ty, word, box_typed}
use Rattle.std.proofs.BoxSteps.Steps.{box_out, box_in}
use Rattle.std.specs.contracts.boxed.Box.from_raw as whole_box
use Rattle.std.proofs.boxed.Box.from_raw.Met.{met}
use Rattle.lk_parcel.proofs.Parcels.{Packed, boxed}
use Rattle.lk_parcel.specs.contracts.Parcel.unpack as this
use Rattle.lk_parcel.proofs.Parcel.unpack.Statement.{statement}
use Rattle.lk_parcel.proofs.Parcel.unpack.Code as code

-- what is left once the call has answered
abbrev ending : Body
ending = seq (assign (place 0 []) (rv_opd (copy (place 4 [])))) return

pub unpack_spec : {M : Type 1} → statement M
unpack_spec 𝓤 𝓛 𝓜 𝓡 wired X Z LX LZ g d dd allocator dropped =
    let H = 𝓛.H in
    let 𝓣 = tables 𝓤 H 𝓜 𝓡 𝓡.env in
    let E : Bx = record { row = X; laws = LX; al = record { row = Z; laws = LZ; g = g; d = d; drops = dd } } in
    let given_args = bounded (a_type ∷ a_type ∷ []) (X, (Z, tt)) (dcons d (dcons dd dnil)) in
    let body = inst_fn given_args code.function in
    let clauses = this.clauses X Z g d dd 𝓛 𝓜.mem 𝓡.returns in
    let ended = this.ended X Z g d dd in
    let stays : Stays ended.signature.params ended.kept = (stay_dropped (plain (λ _. Packed E)) no, tt) in
    let W = walk_of 𝓛 ended stays clauses in
    let C = triple_of 𝓛 (whole_box.signature X Z g d dd) (whole_box.spec X Z g d dd 𝓛 𝓜.mem 𝓡.returns) in
    let called = met 𝓤 𝓛 𝓜 𝓡 (code.calls-std_alloc::boxed::Box::from_raw 𝓡.env wired) X Z LX LZ g d dd allocator dropped in
    proved_at 𝓛 ended stays clauses 𝓜 𝓡 (Goes-blank 𝓛 2 (plain (λ _. Packed E)) no (λ κs x f. tt), tt) (this.Key.name given_args) body (code.unfolded 𝓤 H 𝓜 𝓡 wired (X, (Z, tt)) d dd) (λ z are.
    let κs = z.0.0 in
    let qs = z.0.1 in
    let parcel = z.0.3.0 in
    let a = parcel.alloc in
    let x = parcel.value in
    let runs : List Val → SProp 𝓤 = λ ws. WpFn 𝓤 H 𝓣.C 𝓣.Λ body ws (W.post z) in
    let tokens : Item 𝓤 = ‵ (flft κs.0 qs.0) ⊛ ‵ (flft κs.1.0 qs.1.0) ⊛ ‵ ftrue in
    let lives : Item 𝓤 = raw ((clauses κs z.0.3).requires z.1) in
    qed 𝓛 ((tokens ⊛ ‵ (owns (types_at ended.signature.params κs) z.0.3 z.0.4)) ∷ lives ∷ []) ∵ split ! $ move ! (1 ∷ []) $ fsplit ! $
    use1 𝓛 (‵ ((B E).own_val (boxed E parcel) z.0.4.0)) (id⊢ 𝓤 _) $
    box_out E ! (boxed E parcel) z.0.4.0 (λ b o h at_b is typed. fjoin ! $
    -- [the value with the right to free it; the handle; nothing more; the tokens; what is asked of the lifetimes]
    let w = word E h b o in
    let y : C.Ghost = ((κs, qs, tt, (a, (block_ptr b o, tt)), (h ∷ [], (vptr b o ∷ [], tt))), x) in
    suffices ! (runs (w ∷ [])) (subst (λ (ws : List Val). ent 𝓤 (runs (w ∷ [])) (runs ws)) (sym (λ i. is i ++ [])) (id⊢ 𝓤 (runs (w ∷ [])))) $
    enter ! 𝓣.C 𝓣.Λ body (w ∷ []) (W.post z) $
    alloc_all ! (λ l. pass_all ! refl (box_typed E h b o typed, tt) $
    sets ! (of_opd ! (get_in ! (fld ! refl (stop !)) (sub ! 0 refl (whole !)))) refl (tt, tt) $
    sets ! (of_opd ! (get_in ! (fld ! refl (stop !)) (sub ! 1 refl (whole !)))) refl typed $
    first ! $ blocks ! $ sets ! (of_opd ! (get ! refl)) refl typed $
    move ! (4 ∷ []) $ use1 𝓛 (raw (fact 𝓤 (κs.0 ⊑ X.lives)) ⊛ raw (fact 𝓤 (κs.1.0 ⊑ Z.lives)) ⊛ ‵ ftrue) (id⊢ 𝓤 _) $
    split3 ! $ move ! (2 ∷ []) $ drop ! $ move ! (1 ∷ 2 ∷ []) $ join ! $ move ! (1 ∷ 0 ∷ []) $ join ! $
    move ! (2 ∷ []) $ feq_i ! (List Val) (vptr b o ∷ []) (vptr b o ∷ []) refl $ fjoin ! $
    move ! (2 ∷ 0 ∷ []) $ fjoin ! $ move ! (2 ∷ 0 ∷ []) $ join ! $ join ! $ use1 𝓛 (raw (C.pre y)) (id⊢ 𝓤 _) $
    calls_at_last ! (framed 𝓤 H 𝓜 𝓣) C called y (and_then ! (get ! refl) (and_then ! (get ! refl) (no_more !))) (λ u.
    use1 𝓛 (later (some (λ (r : D E). (tokens ⊛ ‵ ((B E).own_val r (u ∷ []))) ⊛ some (λ (_ : Unit {0} × (Unit {0} × Unit {0})).
    ‵ (fsep ftrue (fsep ftrue ftrue)) ⊛ (raw (fact 𝓤 (r.value ≡ x)) ⊛ raw (fact 𝓤 (r.alloc ≡ a))))))) (id⊢ 𝓤 _) $
    await ! tt $ pick ! (λ r. split ! $ move ! (1 ∷ []) $ pick ! (λ _. split3 ! $ drop ! $
    heard ! (r.value ≡ x) (λ same. drop ! $ split ! $ move ! (1 ∷ []) $
    -- [the box; the tokens]
    box_out E ! r (u ∷ []) (λ c n k at_c is_word fits. box_in E ! r c n r.value at_c refl $
    rewrite ! 0 (λ (ws : List Val). ‵ ((B E).own_val r ws)) (sym is_word) refl $
    let ok : T (has_ty (box_ty E) u) × WT u = subst (λ (s : Val). T (has_ty (box_ty E) s) × WT s) (sym (ap only is_word)) (box_typed E k c n fits) in
    lands_last ! refl ok $ exec ! 𝓣.C 𝓣.Λ (env body.locals l) ending (at_ret (env body.locals l) (W.post z)) $
    sets ! (of_opd ! (get ! refl)) refl ok $
    returns ! (look_at ! 0 refl) $ free_all ! refl $
    suffices ! _ (ends_at 𝓛 ended stays clauses z u r ((tt, (tt, tt)), tt) (tt, tt)) $ says ! same $
    nothing ! $ nothing ! $ fjoin ! $ join ! $ move ! (1 ∷ 0 ∷ []) $ join ! $ done !))))))))

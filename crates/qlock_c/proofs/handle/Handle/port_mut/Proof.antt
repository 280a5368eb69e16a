-- `port_mut` lends the port behind the pointer, and the handle follows it, as a box follows its value.
use Rattle.std.specs.Prelude.{Option, true}
use mathlib.Core.Path.{◌≡◌, refl}
use Prim.Native.Nat.{ℕ}
use mathlib.Core.List.{List, [], ◌∷◌}
use seplogic.Ra.Ura.{Ura}
use base.Fraction.{full_share}
use mir.Syntax.{named}
use mir.Val.{Val, vptr}
use mir.Raw.{raw as bare}
use base.Logic.{ent, sep, id⊢}
use base.Fml.{Fml, GName, ftrue, flft, fsep}
use types.Logic.{Logic, sem}
use contract.Monad.{fact}
use contract.Running.{tables}
use types.Kit.{‵, raw, ◌⊛◌, some, later, at_ret, ◌$◌, ◌∵◌, !, qed, move, keep, drop, use1, split, join, fsplit, fsplit3, fjoin, fpack, pick, await, rewrite, suffices, frame, group, done}
use types.Part.{whole, sub, look_in}
use types.Run.{stop, fld, load, of_opd, first, blocks, exec, returns, enter, addr}
use types.ByLocal.{alloc_all, pass_all, free_all, look_at, get, through, sets, sets_last, env}
use denote.Exit.{no}
use denote.Follow.{follows, Part, lends_Part}
use denote.Memory.{part_at, part_of, mem, cell_at}
use denote.RattleType.{owns}
use denote.RawPtr.{block_ptr}
use denote.Ref.{MutRef, mut_vals, mut_Tells}
use denote.Signature.{plain, mut_ref_to}
use denote.Steps.{nothing, opens, heard}
use denote.Triple.Walked.{says, Stays, stay_dropped, walk_of, ends_at, Goes-spent_ref}
use Rattle.std.proofs.alloc.Calls.{token}
use Rattle.std.proofs.raw_atomic.Walks.{proved}
use Rattle.std.proofs.BoxSteps.Form.{D, R, τ, word, handle}
use Rattle.std.proofs.BoxSteps.Steps.{box_out, box_in}
use Rattle.lk_port.specs.declared.port.Port.{Port}
use Rattle.lk_port.specs.contracts.port.Port as port
use Rattle.qlock_c.specs.Lending.{with_port}
use Rattle.qlock_c.specs.Own.{is_full}
use Rattle.qlock_c.specs.declared.handle.Handle as of
use Rattle.qlock_c.specs.contracts.handle.Handle as Handle
use Rattle.qlock_c.specs.contracts.handle.Handle.port_mut as F
use Rattle.qlock_c.specs.contracts.handle.Handle.port_mut.Key.{name as #self}
use Rattle.qlock_c.proofs.AsBox.{E}
use Rattle.qlock_c.proofs.Full.{full_has}
use Rattle.qlock_c.proofs.handle.Handle.port_mut.Statement as stated
use Rattle.qlock_c.proofs.handle.Handle.port_mut.Code as code

abbrev stayed : Stays F.ended.signature.params F.ended.kept
stayed = (stay_dropped (mut_ref_to (0 ∷ []) tt (plain (λ _. Handle.the_row))) no, tt)

module _ {M : Type 1} {𝓤 : Ura M} (𝓛 : Logic 𝓤) (rb ro : ℕ) (h : of.Handle) (b o : ℕ) (hv : Val) where
  -- all of the handle but its port
  abbrev Rest : Fml
  Rest = fsep (fsep (token E.al h.alloc (bare (τ E)) (block_ptr b o)) (handle E h.alloc hv)) (cell_at full_share Handle.the_row.mir (word E hv b o ∷ []) rb ro)

  back : h.at ≡ block_ptr b o → (w : Port) → ent 𝓤 (sep 𝓤 (sem 𝓛 ((mem port.the_row).own_at w b o)) (sem 𝓛 Rest)) (sem 𝓛 ((mem Handle.the_row).own_at (with_port h w) rb ro))
  unfolding part_of
  back at_b w =
      let d : D E = record { ptr = h.at; alloc = h.alloc; value = w } in
      qed 𝓛 (‵ (part_at (R E) full_share w b o) ∷ ‵ Rest ∷ []) ∵ move ! (1 ∷ []) $ fsplit ! $ fsplit ! $ move ! (3 ∷ []) $
      box_in E ! d b o w at_b refl $ use1 𝓛 (‵ (Handle.the_row.own_val (with_port h w) (word E hv b o ∷ []))) (id⊢ 𝓤 _) $ move ! (1 ∷ 0 ∷ []) $ fjoin ! $
      fpack ! (List Val) (λ us. fsep (cell_at full_share Handle.the_row.mir us rb ro) (Handle.the_row.own_val (with_port h w) us)) (word E hv b o ∷ []) $ done !

pub port_mut_spec : {M : Type 1} → stated.statement M
port_mut_spec 𝓤 𝓛 𝓜 𝓡 wired =
    let c = F.clauses 𝓛 𝓜.mem 𝓡.returns in let W = walk_of 𝓛 F.ended stayed c in let 𝓣 = tables 𝓤 𝓛.H 𝓜 𝓡 𝓡.env in
    proved 𝓛 F.ended stayed c 𝓜 𝓡 (Goes-spent_ref 𝓛 1 (0 ∷ []) tt (plain (λ _. Handle.the_row)), tt)
    #self code.function (code.unfolded 𝓤 𝓛.H 𝓜 𝓡 wired)
    (λ κs. (mut_vals, tt)) (λ κs. (mut_Tells (named 0) κs.0 Handle.the_row, tt)) (λ κs qs bounds a _ are.
    let κ = κs.0 in let q = qs.0 in let r = a.0 in let rb = r.ref_ptr.0 in let ro = r.ref_ptr.1 in let γ = r.ghost_name in let h = r.now in
    let y : W.Ghost = ((κs, qs, bounds, a, (mut_vals r, tt)), tt) in
    qed 𝓛 (((‵ (flft κ q) ⊛ ‵ ftrue) ⊛ ‵ (owns (MutRef (named 0) κ Handle.the_row ∷ []) a (mut_vals r, tt))) ∷ raw (fact 𝓤 (is_full h.inner ≡ true)) ∷ []) ∵
    move ! (1 ∷ []) $ heard ! (is_full h.inner ≡ true) (λ full. split ! $
    let has = full_has h.inner full in
    let v : D E = record { ptr = h.at; alloc = h.alloc; value = has.0 } in
    enter ! _ _ _ _ _ $ alloc_all ! (λ l. pass_all ! refl ((tt, tt), tt) $
    move ! (1 ∷ []) $ fsplit ! $ fsplit3 ! $ drop ! $ move ! (3 ∷ []) $ split ! $ move ! (2 ∷ 3 ∷ 0 ∷ []) $
    opens ! tt Handle.the_row {h = h} rb ro (λ vs. move ! (1 ∷ []) $
    rewrite ! 0 (λ (inner : Option Port). ‵ (Handle.the_row.own_val (record { at = h.at; alloc = h.alloc; inner = inner }) vs)) has.1 refl $
    box_out E ! v vs (λ b o hv at_b ws fa. move ! (1 ∷ 2 ∷ []) $ fjoin ! $ move ! (1 ∷ []) $
    rewrite ! 2 (λ (us : List Val). ‵ (cell_at full_share Handle.the_row.mir us rb ro)) ws refl $
    -- [the port; the rest of the handle; its words; the open borrow; what it had; the same]
    first ! $ blocks ! $
    sets ! (of_opd ! (load ! (through ! refl (fld ! refl (stop !))) (look_in ! 2 (sub ! 0 refl (whole !))))) refl (tt, tt) $
    sets_last ! (addr ! (through ! refl (stop !))) refl (tt, tt) $
    exec ! 𝓣.C 𝓣.Λ (env code.Mir.locals l) code.Mir.t-2 (at_ret _ (W.post y)) $
    sets ! (of_opd ! (get ! refl)) refl (tt, tt) $
    move ! (1 ∷ 2 ∷ []) $ fjoin ! $ move ! (2 ∷ 3 ∷ 4 ∷ 1 ∷ 0 ∷ []) $ group ! 5 $
    let rest = sem 𝓛 (Rest 𝓛 rb ro h b o hv) in
    let code-h = Handle.the_row.coded.code h in
    use1 𝓛 (later (some (λ (γ' : GName). raw (Part 𝓛 Handle.the_row port.the_row (with_port h) (named 0) κ q rb ro b o γ rest (back 𝓛 rb ro h b o hv at_b) has.0 γ'))))
    (lends_Part 𝓛 Handle.the_row port.the_row (with_port h) (named 0) κ q rb ro b o γ rest (back 𝓛 rb ro h b o hv at_b) code-h code-h has.0) $ await ! tt $ pick ! (λ γ'.
    returns ! (look_at ! 0 refl) $ free_all ! refl $ keep ! (0 ∷ []) $
    use1 𝓛 (‵ ((MutRef (named 0) κ port.the_row).own_val (record { ref_ptr = (b, o); ghost_name = γ'; now = has.0 }) (vptr b o ∷ [])) ⊛ ‵ (flft κ q) ⊛ ‵ (follows Handle.the_row port.the_row γ γ' (with_port h))) (id⊢ 𝓤 _) $
    split ! $ move ! (1 ∷ []) $ split ! $ move ! (2 ∷ 0 ∷ 1 ∷ []) $
    suffices ! _ (ends_at 𝓛 F.ended stayed c y (vptr b o) (record { ref_ptr = (b, o); ghost_name = γ'; now = has.0 }) (tt, tt) (tt, tt)) $
    nothing ! $ nothing ! $ fjoin ! $ join ! $ nothing ! $ move ! (2 ∷ 0 ∷ []) $ join ! $ join ! $ frame ! $ says ! has.1 $ done !))))))

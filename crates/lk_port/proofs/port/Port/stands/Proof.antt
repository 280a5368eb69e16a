-- `stands` takes a fact out of its truncation: what a contract states is a truncated fact too, so its proof may be opened by this proof.
use Rattle.std.proofs.Common.{refl, Bor}
use Rattle.std.proofs.Math.Logic.{∥∥₁_elim}
use base.Fml.{Lft, Share, flft, ftrue}
use base.Logic.{SProp, ent, emp}
use contract.Monad.{Fun}
use contract.Running.{tables, tables_of}
use denote.Builtin.{RefOf}
use denote.Exit.{yes}
use denote.RattleType.{owns}
use denote.Ref.{shr_vals}
use denote.Signature.{Slot, plain, types_at}
use denote.Steps.{nothing}
use denote.Triple.Spec.{Meets, triple_of}
use denote.Triple.Table.{entered}
use denote.Triple.Walked.{says, Stays, stay_dropped, walk_of, ends_at, walked, Goes-dropped}
use denote.Triple.Walked.{walk_Meets}
use mathlib.Core.List.{List, [], ◌∷◌}
use mir.Val.{Val, vptr, vunit}
use prog.Memory.{Memory}
use prog.Routine.{Routine}
use prog.Wp.{WpFn, Tables}
use seplogic.Bi.Basic.{Entails-prop}
use seplogic.Ra.Ura.{Ura}
use sound.WpLaws.{WpFn-mono}
use types.ByLocal.{alloc_all, pass_all, free_all, look_at, sets}
use types.Kit.{‵, raw, ◌⊛◌, ◌$◌, ◌∵◌, !, qed, move, keep, join, split, fjoin, feq_i, suffices, done}
use types.Logic.{Logic}
use types.Run.{of_opd, unit_lit, returns, enter}
use Rattle.lk_port.specs.contracts.port.Port.stands.Key.{name as #self}
use Rattle.lk_port.specs.contracts.port.Port as P
use Rattle.lk_port.specs.contracts.port.Port.stands as F
use Rattle.lk_port.proofs.port.Port.stands.Statement as stated
use Rattle.lk_port.proofs.port.Port.stands.Code as code

abbrev Self : Slot 1
Self = RefOf (0 ∷ []) tt (plain (λ _. P.the_row)) (λ _. tt)

abbrev stayed : Stays (F.ended).signature.params (F.ended).kept
stayed = (stay_dropped Self yes, tt)

module _ {M : Type 1} {𝓤 : Ura M} (𝓛 : Logic 𝓤) (at_mem : Memory → SProp 𝓤) (run : Routine → Fun 𝓤) (𝓣 : Tables 𝓤 𝓛.H) (κ : Lft) (q : Share) (r : Bor (P.the_row).Denot) where
  open 𝓛 use {H}

  abbrev bound : (walk_of 𝓛 F.ended stayed (F.clauses 𝓛 at_mem run)).Ghost
  bound = (((κ, tt), (q, tt), tt, (r, tt), (shr_vals r, tt)), tt)

  abbrev Pre : SProp 𝓤
  Pre = (walk_of 𝓛 F.ended stayed (F.clauses 𝓛 at_mem run)).pre bound

  abbrev Post : Val → SProp 𝓤
  Post = (walk_of 𝓛 F.ended stayed (F.clauses 𝓛 at_mem run)).post bound

  abbrev Runs : SProp 𝓤
  Runs = WpFn 𝓤 H 𝓣.C 𝓣.Λ code.function (vptr r.ref_ptr.0 r.ref_ptr.1 ∷ []) Post

  walk : ent 𝓤 Pre Runs
  walk =
      ∥∥₁_elim r.now.stands (Entails-prop 𝓤.op Pre Runs) (λ st.
      qed 𝓛 (((‵ (flft κ q) ⊛ ‵ ftrue) ⊛ ‵ (owns (types_at (F.signature).params (κ, tt)) bound.0.3 bound.0.4)) ∷ raw (emp 𝓤) ∷ []) ∵
      split ! $ split ! $ keep ! (0 ∷ []) $ enter ! 𝓣.C 𝓣.Λ code.function (vptr r.ref_ptr.0 r.ref_ptr.1 ∷ []) _ $
      alloc_all ! (λ l. pass_all ! refl ((tt, tt), tt) $ sets ! (of_opd ! (unit_lit !)) refl (tt, tt) $
      returns ! (look_at ! 0 refl) $ free_all ! refl $ keep ! (0 ∷ []) $
      suffices ! _ (ends_at 𝓛 F.ended stayed (F.clauses 𝓛 at_mem run) bound vunit tt (tt, tt) (tt, tt)) $ says ! st $
      feq_i ! (List Val) (vunit ∷ []) (vunit ∷ []) refl $
      nothing ! $ nothing ! $ fjoin ! $ join ! $ nothing ! $ move ! (2 ∷ 0 ∷ []) $ join ! $ join ! $ done !))

meets : {M : Type 1} {𝓤 : Ura M} (𝓛 : Logic 𝓤) (at_mem : Memory → SProp 𝓤) (run : Routine → Fun 𝓤) (𝓣 : Tables 𝓤 𝓛.H)
    → Meets 𝓛 F.signature (WpFn 𝓤 𝓛.H 𝓣.C 𝓣.Λ code.function) (F.spec 𝓛 at_mem run)
meets {𝓤 = 𝓤} 𝓛 at_mem run 𝓣 =
    walk_Meets 𝓛 F.ended stayed (Goes-dropped 𝓛 1 Self yes (λ κs x f. refl), tt) (F.clauses 𝓛 at_mem run) (WpFn 𝓤 𝓛.H 𝓣.C 𝓣.Λ code.function) (WpFn-mono 𝓤 𝓛.H 𝓛.laws 𝓣 code.function)
    (walked 𝓛 F.ended stayed (F.clauses 𝓛 at_mem run) (WpFn 𝓤 𝓛.H 𝓣.C 𝓣.Λ code.function) (λ κs. (shr_vals, tt)) (λ κs. ((λ r vs s. s.0), tt))
    (λ κs qs bounds a g are. walk 𝓛 at_mem run 𝓣 κs.0 qs.0 a.0))

pub stands_spec : {M : Type 1} → stated.statement M
unfolding tables_of
stands_spec 𝓤 𝓛 𝓜 𝓡 wired =
    let 𝓣 : Tables 𝓤 𝓛.H = tables_of 𝓤 𝓛.H 𝓜 (tables 𝓤 𝓛.H 𝓜 𝓡 𝓡.env) in
    entered 𝓤 𝓛.H (triple_of 𝓛 F.signature (F.spec 𝓛 𝓜.mem 𝓡.returns)) 𝓣.C 𝓣.Λ #self code.function (code.unfolded 𝓤 𝓛.H 𝓜 𝓡 wired)
    (meets 𝓛 𝓜.mem 𝓡.returns 𝓣)

-- Where the branches of a row lead.
use Rattle.std.proofs.Common.{ℕ, Bool, true, false, List, if◌then◌else◌}
use Rattle.lk_idle.proofs.Names.{Change, Effect, Goes, Frame, Pc, Lives}
use Rattle.lk_idle.proofs.Leading.{LeadsFine}

-- where the row leads, what does not live is not read
pub record Fine {A : Type 0} (p : ℕ) (l : Lives) (f : Frame) (o : Effect A) : Type 0 where
  pub leads : LeadsFine p l f o.leads

module _ {A : Type 0} {p : ℕ} {l : Lives} {f : Frame} where
  -- one of two effects
  pub pick : (b : Bool) (x y : Effect A) → Fine p l f x → Fine p l f y → Fine p l f (if b then x else y)
  pick true x y a b = a
  pick false x y a b = b

-- one of two places
pub goes : (p : ℕ) (l : Lives) (f : Frame) (b : Bool) (c d : Pc) (cs : List Change) → LeadsFine p l f (Goes c cs)
    → LeadsFine p l f (Goes d cs) → LeadsFine p l f (Goes (if b then c else d) cs)
goes p l f true c d cs x y = x
goes p l f false c d cs x y = y

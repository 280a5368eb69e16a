-- What the answers exclude, since a text says one thing.
use Rattle.std.proofs.Common.{◌≡◌, ◌⊎◌, ℕ, List, Option, Some, Result, Ok, Err, IsOkUnless, IsErrAnd, IfOk, IfErr, refl, sym, ap, ◌∙◌, subst, inl, inr}
use Rattle.lk_text.specs.Causes.{Rose}
use Rattle.lk_forms.specs.declared.answers.LineRefusal.{LineRefusal}
use Rattle.lk_forms.specs.declared.answers.LineRefusal.TheVariants.{Bad, Limit}
use Rattle.lk_stream.specs.Grammar.{Grammar, Saying, Good, Refused, Says, saying}
use Rattle.lk_stream.specs.Outside.{Outside}
use Rattle.lk_stream.specs.Outcome.{FaultMeans, refused_fault}
use Rattle.lk_stream.specs.declared.answers.ReplayFault.{ReplayFault}
use Rattle.lk_stream.specs.declared.answers.ReplayFault.TheVariants as fault

-- a text says one thing
says_one : {S : Type 0} (g : Grammar S) (left : Option (List ℕ)) (bytes : List ℕ) (t u : Saying S)
    → left ≡ Some bytes → saying g bytes ≡ t → Says g left u → u ≡ t
says_one g left bytes t u known is says = sym (subst (λ l. Says g l u) known says) ∙ is

module _ {S T : Type 0} (g : Grammar S) (old new : Outside) (bytes : List ℕ)
    (known : old.left ≡ Some bytes)
    (no_read : ¬ Rose old.reads new.reads) (no_write : ¬ Rose old.writes new.writes) where
  pub complete : (said : S) (result : Result T ReplayFault) → saying g bytes ≡ Good said
      → IfErr result (FaultMeans g old new) → IsOkUnless result fault.Memory
  complete said (Ok t) is o = tt
  complete said (Err (fault.BadInput line why)) is o =
      (let other = says_one g old.left bytes _ _ known is o.refused in cc)
  complete said (Err (fault.Limit line which)) is o =
      (let other = says_one g old.left bytes _ _ known is o.refused in cc)
  complete said (Err fault.ReadFault) is o = absurd (no_read o.rose)
  complete said (Err fault.WriteFault) is o = absurd (no_write o.rose)
  complete said (Err fault.Memory) is o = refl

  pub exact : (line : ℕ) (why : LineRefusal) (said : S) (result : Result T ReplayFault)
      → saying g bytes ≡ Refused line why said
      → IfOk result (λ t. (s : S) × Says g old.left (Good s)) → IfErr result (FaultMeans g old new)
      → IsErrAnd result (λ f. (f ≡ refused_fault line why) ⊎ (f ≡ fault.Memory))
  exact line why said (Ok t) is done o =
      (let other = says_one g old.left bytes _ _ known is done.1 in cc)
  exact line why said (Err (fault.BadInput n w)) is done o =
      (let same =
      says_one g old.left bytes (Refused line why said)
      (Refused n (Bad w) o.said) known is o.refused in
      let line_is : n ≡ line = cc in let why_is : Bad w ≡ why =
      cc in inl (ap (λ x. refused_fault x (Bad w)) line_is ∙ ap (refused_fault line) why_is))
  exact line why said (Err (fault.Limit n w)) is done o =
      (let same =
      says_one g old.left bytes (Refused line why said)
      (Refused n (Limit w) o.said) known is o.refused in
      let line_is : n ≡ line = cc in let why_is : Limit w ≡ why =
      cc in inl (ap (λ x. refused_fault x (Limit w)) line_is ∙ ap (refused_fault line) why_is))
  exact line why said (Err fault.ReadFault) is done o = absurd (no_read o.rose)
  exact line why said (Err fault.WriteFault) is done o = absurd (no_write o.rose)
  exact line why said (Err fault.Memory) is done o = inr refl

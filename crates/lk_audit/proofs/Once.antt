-- A text says one thing, and is broken at one line.
use Rattle.std.proofs.Common.{true, ◌≡◌, ◌++◌, ◌+◌, ◌⊎◌, ℕ, List, [], ◌∷◌, Option, Some, Result, Ok, Err, IsOkUnless, IsErrAnd, fold, inl, inr, refl, sym, ap, subst, ◌∙◌}
use Rattle.std.proofs.lemmas.List.{append_cancel_left}
use Rattle.std.proofs.lemmas.List.Sums.{fold-append}
use Rattle.std.specs.Result.{result_unwrap_or}
use Rattle.lk_names.specs.declared.events.Event.{Event}
use Rattle.lk_names.specs.declared.events.Breach.{Breach}
use Rattle.lk_text.specs.Causes.{Rose}
use Rattle.lk_forms.specs.Grammar.{has_go}
use Rattle.lk_forms.specs.declared.answers.LineRefusal.{LineRefusal}
use Rattle.lk_forms.specs.declared.answers.LineRefusal.TheVariants.{Bad, Limit}
use Rattle.lk_stream.specs.Grammar.{Place, Saying, Good, Refused, Says, first_place, next_place, unless_refused, says_from, saying}
use Rattle.lk_stream.specs.Outside.{Outside}
use Rattle.lk_audit_forms.specs.Grammar.{Said, audit_grammar}
use Rattle.lk_audit_forms.specs.Texts.{name_of}
use Rattle.lk_audit.specs.Lawful.{events_said, IsLawfulSo, breach_behind, BreaksAt, Breaks}
use Rattle.lk_audit.specs.Outcome.{Outcome, refused_fault}
use Rattle.lk_audit.specs.declared.answers.AuditFault.{AuditFault}
use Rattle.lk_audit.specs.declared.answers.AuditFault.TheVariants as fault
use Rattle.lk_audit.proofs.Grows.{GrowsTo, said_in, follow, saying_grows, place_grows, lawful_before}

-- where two lists are cut at an item
data Cuts {A : Type 0} (xs ys : List A) (a b : A) : Type 0 where
  Same : xs ≡ ys → a ≡ b → Cuts xs ys a b
  Before : (mid : List A) → ys ≡ xs ++ a ∷ mid → Cuts xs ys a b
  Behind : (mid : List A) → xs ≡ ys ++ b ∷ mid → Cuts xs ys a b

cuts : {A : Type 0} (xs ys : List A) (a b : A) (r s : List A) → xs ++ a ∷ r ≡ ys ++ b ∷ s → Cuts xs ys a b
cuts [] [] a b r s is = Same refl (cc)
cuts [] (y ∷ ys) a b r s is = (let first : a ≡ y = cc in Before ys (ap (λ z. z ∷ ys) (sym first)))
cuts (x ∷ xs) [] a b r s is = (let first : x ≡ b = cc in Behind xs (ap (λ z. z ∷ xs) first))
cuts (x ∷ xs) (y ∷ ys) a b r s is =
    let first : x ≡ y = cc in
    let rest : xs ++ a ∷ r ≡ ys ++ b ∷ s = cc in
    on first (cuts xs ys a b r s rest)
  where
    on : x ≡ y → Cuts xs ys a b → Cuts (x ∷ xs) (y ∷ ys) a b
    on first (Same xy ab) = Same (ap (λ z. z ∷ xs) first ∙ ap (λ l. y ∷ l) xy) ab
    on first (Before mid is) = Before mid (ap (λ l. y ∷ l) is ∙ ap (λ z. z ∷ (xs ++ a ∷ mid)) (sym first))
    on first (Behind mid is) = Behind mid (ap (λ l. x ∷ l) is ∙ ap (λ z. z ∷ (ys ++ b ∷ mid)) first)

-- what the text says that is broken has the history of the broken line
says_on : (bytes : List ℕ) (line : ℕ) (breach : Breach) (b : BreaksAt bytes line breach)
    → GrowsTo b.next.said (said_in (saying audit_grammar bytes))
says_on bytes line breach b =
    let says : saying audit_grammar bytes ≡ says_from audit_grammar b.next b.rest =
    ap (says_from audit_grammar (first_place audit_grammar)) b.whole ∙ b.leads.accepted (b.piece ∷ b.rest)
    ∙ ap (λ r. unless_refused b.place r (λ q. says_from audit_grammar q b.rest)) b.accepted in
    let gone : has_go b.next.said.header ≡ true = ap has_go b.broken.header ∙ b.broken.gone in
    subst (λ x. GrowsTo b.next.said (said_in x)) (sym says) (saying_grows b.rest b.next gone)

-- so it is not lawful
pub broken_unlawful : (bytes : List ℕ) (line : ℕ) (breach : Breach) → BreaksAt bytes line breach
    → (x : Saying Said) → saying audit_grammar bytes ≡ x → ¬ IsLawfulSo (said_in x)
broken_unlawful bytes line breach b x is = λ ok.
    b.broken.unlawful
    (lawful_before b.next.said _ (says_on bytes line breach b) (subst (λ y. IsLawfulSo (said_in y)) (sym is) ok))

module _ (bytes : List ℕ) (line line' : ℕ) (breach breach' : Breach) (b : BreaksAt bytes line breach)
    (c : BreaksAt bytes line' breach') where
  -- a line before the broken one is not broken
  sooner : (mid : List (List ℕ)) → c.before ≡ b.before ++ b.piece ∷ mid → ⊥
  sooner mid is =
      let place : c.place ≡ fold follow b.next mid =
      sym c.leads.behind ∙ ap (fold follow (first_place audit_grammar)) is
      ∙ fold-append follow (first_place audit_grammar) b.before (b.piece ∷ mid)
      ∙ ap (λ p. fold follow (follow p b.piece) mid) b.leads.behind
      ∙ ap (λ r. fold follow (result_unwrap_or r b.place) mid) b.accepted in
      let gone : has_go b.next.said.header ≡ true = ap has_go b.broken.header ∙ b.broken.gone in
      let grows = place_grows mid b.next gone in
      b.broken.unlawful
      (lawful_before b.next.said (fold follow b.next mid).said grows
      (subst (λ (p : Place Said). IsLawfulSo p.said) place c.broken.lawful))

last_same : (es : List Event) (e f : Event) → es ++ e ∷ [] ≡ es ++ f ∷ [] → e ≡ f
last_same es e f is = (let rest = append_cancel_left es (e ∷ []) (f ∷ []) is in cc)

-- one line, and one breach
pub broken_once : (bytes : List ℕ) (line line' : ℕ) (breach breach' : Breach) → BreaksAt bytes line breach
    → BreaksAt bytes line' breach' → (line' ≡ line) × (breach' ≡ breach)
broken_once bytes line line' breach breach' b c =
    by_cut (cuts b.before c.before b.piece c.piece b.rest c.rest (sym b.whole ∙ c.whole))
  where
    by_cut : Cuts b.before c.before b.piece c.piece → (line' ≡ line) × (breach' ≡ breach)
    by_cut (Before mid is) = absurd (sooner bytes line line' breach breach' b c mid is)
    by_cut (Behind mid is) = absurd (sooner bytes line' line breach' breach c b mid is)
    by_cut (Same before piece) =
        let place : b.place ≡ c.place =
        sym b.leads.behind ∙ ap (fold follow (first_place audit_grammar)) before ∙ c.leads.behind in
        let next : Ok b.next ≡ Ok c.next =
        sym b.accepted ∙ ap (λ p. next_place audit_grammar p b.piece) place
        ∙ ap (next_place audit_grammar c.place) piece ∙ c.accepted in
        let next_is : b.next ≡ c.next = cc in
        let events : events_said b.place.said ++ b.broken.event ∷ [] ≡ events_said b.place.said ++ c.broken.event ∷ [] =
        sym b.broken.tells ∙ ap (λ (p : Place Said). events_said p.said) next_is ∙ c.broken.tells
        ∙ ap (λ (p : Place Said). events_said p.said ++ c.broken.event ∷ []) (sym place) in
        let event : b.broken.event ≡ c.broken.event =
        last_same (events_said b.place.said) b.broken.event c.broken.event events in
        let same : Some breach ≡ Some breach' =
        sym b.broken.breaks
        ∙ ap (λ (p : Place Said). breach_behind p.said.header.setup (events_said p.said) b.broken.event) place
        ∙ ap (breach_behind c.place.said.header.setup (events_said c.place.said)) event ∙ c.broken.breaks in
        (c.number ∙ ap (λ (p : Place Said). p.lines + 1) (sym place) ∙ sym b.number, cc)

-- a known text says one thing
says_one : (left : Option (List ℕ)) (bytes : List ℕ) (x : Saying Said) → left ≡ Some bytes
    → Says audit_grammar left x → saying audit_grammar bytes ≡ x
says_one left bytes x known says = subst (λ l. Says audit_grammar l x) known says

breaks_known : (left : Option (List ℕ)) (bytes : List ℕ) (line : ℕ) (breach : Breach) → left ≡ Some bytes
    → Breaks left line breach → BreaksAt bytes line breach
breaks_known left bytes line breach known b = subst (λ l. Breaks l line breach) known b

module _ (old new : Outside) (bytes : List ℕ) (known : old.left ≡ Some bytes)
    (no_read : ¬ Rose old.reads new.reads) (no_write : ¬ Rose old.writes new.writes) where
  pub complete : (said : Said) (result : Result ℕ AuditFault) → saying audit_grammar bytes ≡ Good said
      → IsLawfulSo said → Outcome old new result → IsOkUnless result fault.Memory
  complete said (Ok n) is ok o = tt
  complete said (Err (fault.BadInput line why)) is ok o =
      (let other = says_one old.left bytes _ known o.refused in cc)
  complete said (Err (fault.Limit line which)) is ok o =
      (let other = says_one old.left bytes _ known o.refused in cc)
  complete said (Err (fault.Breach line name)) is ok o =
      absurd (broken_unlawful bytes line o.0 (breaks_known old.left bytes line o.0 known o.2.breaks) (Good said) is ok)
  complete said (Err fault.ReadFault) is ok o = absurd (no_read o.rose)
  complete said (Err fault.WriteFault) is ok o = absurd (no_write o.rose)
  complete said (Err fault.Memory) is ok o = refl

  pub breaks : (line : ℕ) (breach : Breach) (result : Result ℕ AuditFault) → BreaksAt bytes line breach
      → Outcome old new result
      → IsErrAnd result (λ f. (f ≡ fault.Breach line (name_of breach)) ⊎ (f ≡ fault.Memory))
  breaks line breach (Ok n) b o =
      absurd (broken_unlawful bytes line breach b (Good o.said) (says_one old.left bytes _ known o.good) o.lawful)
  breaks line breach (Err (fault.BadInput n why)) b o =
      absurd (broken_unlawful bytes line breach b (Refused n (Bad why) o.said) (says_one old.left bytes _ known o.refused) o.lawful)
  breaks line breach (Err (fault.Limit n which)) b o =
      absurd (broken_unlawful bytes line breach b (Refused n (Limit which) o.said) (says_one old.left bytes _ known o.refused) o.lawful)
  breaks line breach (Err (fault.Breach n name)) b o =
      let same = broken_once bytes line n breach o.0 b (breaks_known old.left bytes n o.0 known o.2.breaks) in
      inl (ap (λ m. fault.Breach m name) same.0 ∙ ap (fault.Breach line) (o.1 ∙ ap name_of same.1))
  breaks line breach (Err fault.ReadFault) b o = absurd (no_read o.rose)
  breaks line breach (Err fault.WriteFault) b o = absurd (no_write o.rose)
  breaks line breach (Err fault.Memory) b o = inr refl

  pub exact : (line : ℕ) (why : LineRefusal) (said : Said) (result : Result ℕ AuditFault)
      → saying audit_grammar bytes ≡ Refused line why said → IsLawfulSo said → Outcome old new result
      → IsErrAnd result (λ f. (f ≡ refused_fault line why) ⊎ (f ≡ fault.Memory))
  exact line why said (Ok n) is ok o = (let other = says_one old.left bytes _ known o.good in cc)
  exact line why said (Err (fault.BadInput n w)) is ok o =
      let same : Refused line why said ≡ Refused n (Bad w) o.said = sym is ∙ says_one old.left bytes _ known o.refused in
      let line_is : n ≡ line = cc in
      let why_is : Bad w ≡ why = cc in
      inl (ap (λ x. refused_fault x (Bad w)) line_is ∙ ap (refused_fault line) why_is)
  exact line why said (Err (fault.Limit n w)) is ok o =
      let same : Refused line why said ≡ Refused n (Limit w) o.said = sym is ∙ says_one old.left bytes _ known o.refused in
      let line_is : n ≡ line = cc in
      let why_is : Limit w ≡ why = cc in
      inl (ap (λ x. refused_fault x (Limit w)) line_is ∙ ap (refused_fault line) why_is)
  exact line why said (Err (fault.Breach n name)) is ok o =
      absurd (broken_unlawful bytes n o.0 (breaks_known old.left bytes n o.0 known o.2.breaks) (Refused line why said) is ok)
  exact line why said (Err fault.ReadFault) is ok o = absurd (no_read o.rose)
  exact line why said (Err fault.WriteFault) is ok o = absurd (no_write o.rose)
  exact line why said (Err fault.Memory) is ok o = inr refl

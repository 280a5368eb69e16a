-- A text in four parts, each put behind what waited after the one before.
use Rattle.std.proofs.Common.{◌≡◌, ◌++◌, ℕ, List, Option, Result, Ok, Err, OnOk, OnErr, ap, ◌∙◌, append_assoc, subst}
use Rattle.std.specs.Io.KnownBytes.{Appends}
use Rattle.lk_text.specs.Bytes.{AppendsFront, Conveys}
use Rattle.lk_text.proofs.Conveyed.{Conveys-trans, conveyed_all, front_of_more, front_of_rest}

-- `a` to `e` are what the sink held before each part and behind the last, `w` to `z` what waited.
module _ (w first second third last : List ℕ) (a b : Option (List ℕ)) where
  parts : ((first ++ second) ++ third) ++ last ≡ first ++ (second ++ (third ++ last))
  parts = append_assoc (first ++ second) third last ∙ append_assoc first second (third ++ last)

  pub cut_at_first : AppendsFront a b (w ++ first)
      → AppendsFront a b (w ++ (first ++ (second ++ (third ++ last))))
  cut_at_first cut =
      subst (AppendsFront a b) (append_assoc w first (second ++ (third ++ last)))
      (front_of_more a b (w ++ first) (second ++ (third ++ last)) cut)

  module _ (c : Option (List ℕ)) (x : List ℕ) (one : Conveys a b w first x) where
    pub cut_at_second : AppendsFront b c (x ++ second)
        → AppendsFront a c (w ++ (first ++ (second ++ (third ++ last))))
    cut_at_second cut =
        let shown = front_of_rest a b c w x first second one cut in
        subst (AppendsFront a c)
        (append_assoc w (first ++ second) (third ++ last)
        ∙ ap (λ l. w ++ l) (append_assoc first second (third ++ last)))
        (front_of_more a c (w ++ (first ++ second)) (third ++ last) shown)

    module _ (d : Option (List ℕ)) (y : List ℕ) (two : Conveys b c x second y) where
      both : Conveys a c w (first ++ second) y
      both = Conveys-trans a b c w x y first second one two

      pub cut_at_third : AppendsFront c d (y ++ third)
          → AppendsFront a d (w ++ (first ++ (second ++ (third ++ last))))
      cut_at_third cut =
          let shown = front_of_rest a c d w y (first ++ second) third both cut in
          subst (AppendsFront a d)
          (append_assoc w ((first ++ second) ++ third) last ∙ ap (λ l. w ++ l) parts)
          (front_of_more a d (w ++ ((first ++ second) ++ third)) last shown)

      module _ (e : Option (List ℕ)) (z : List ℕ) (three : Conveys c d y third z) where
        conveyed : Conveys a d w ((first ++ second) ++ third) z
        conveyed = Conveys-trans a c d w y z (first ++ second) third both three

        pub all_put : {T E : Type 0} (r : Result T E) → OnOk r (Appends d e (z ++ last))
            → OnOk r (Appends a e (w ++ (first ++ (second ++ (third ++ last)))))
        all_put (Ok t) put =
            subst (Appends a e) (ap (λ l. w ++ l) parts)
            (conveyed_all a d e w z ((first ++ second) ++ third) last conveyed put)
        all_put (Err fault) put = tt

        pub cut_at_last : {T E : Type 0} (r : Result T E)
            → OnErr r (AppendsFront d e (z ++ last))
            → OnErr r (AppendsFront a e (w ++ (first ++ (second ++ (third ++ last)))))
        cut_at_last (Ok t) cut = tt
        cut_at_last (Err fault) cut =
            subst (AppendsFront a e) (ap (λ l. w ++ l) parts)
            (front_of_rest a d e w z ((first ++ second) ++ third) last conveyed cut)

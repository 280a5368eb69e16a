-- What an accepted line makes of what is read.
use Rattle.std.proofs.Common.{◌≡◌, ℕ, Bool, true, false, List, [], ◌∷◌, Option, None, Some, Result, Ok, Err, length, fold, refl, subst, nat_le, if◌then◌else◌}
use Rattle.std.specs.Result.{result_unwrap_or}
use Rattle.lk_names.specs.declared.names.Format.{Format}
use Rattle.lk_rows.specs.declared.setup.Setup.{Setup}
use Rattle.lk_forms.specs.Words.{words, is_text, is_comment}
use Rattle.lk_forms.specs.Keywords.{keyword_of, rank_of, fault_of_place}
use Rattle.lk_forms.specs.Operations.{unless}
use Rattle.lk_forms.specs.Grammar.{Reading, nothing_read, cpus_of, header_line, schedule_args, scheduled, read_header, read_schedule, read_placed, read_known, format_said, read_format, read_ranked, read_words, read, next_reading, reading_of}
use Rattle.lk_forms.specs.declared.answers.Fault.{Fault}
use Rattle.lk_forms.specs.declared.answers.Fault.TheVariants.{NotText}
use Rattle.lk_forms.specs.declared.answers.LineRefusal.{LineRefusal}
use Rattle.lk_forms.specs.declared.answers.LineRefusal.TheVariants.{Bad}
use Rattle.lk_forms.specs.declared.answers.Sched.{Sched}
use Rattle.lk_forms.specs.declared.keyword.Keyword.{Keyword}
use Rattle.lk_forms.proofs.Changes.{Changes, and_then-ok, if-ok, header_line-changes}

-- what one accepted line may make of what is read
pub data Steps (r : Reading) : Reading → Type 0 where
  skips : Steps r r
  begins : (format : Format) → r.rank ≡ None → Steps r (record r { rank = Some 0; setup = record r.setup { format = format } })
  sets : (last : ℕ) (k : Keyword) (s : Setup) → r.rank ≡ Some last → fault_of_place last k ≡ None → nat_le (rank_of k) 9 ≡ true → Changes r.setup s
      → Steps r (record r { rank = Some (rank_of k); setup = s })
  schedules : (last : ℕ) (k : Keyword) (args : List (List ℕ)) (said : Sched) → r.rank ≡ Some last → fault_of_place last k ≡ None → nat_le (rank_of k) 9 ≡ false
      → schedule_args k (cpus_of r.setup) (length r.acts) args ≡ Ok said → Steps r (scheduled r said)

reached : (r t r' : Reading) → Steps r t → ◌≡◌ {A = Result Reading LineRefusal} (Ok t) (Ok r') → Steps r r'
reached r t r' steps is = let same : t ≡ r' = cc in subst (λ x. Steps r x) same steps

pub unless-ok : {A : Type 0} (fault : Option Fault) (next : Result A LineRefusal) (a : A) → unless fault next ≡ Ok a → (fault ≡ None) × (next ≡ Ok a)
unless-ok None next a is = (refl, is)
unless-ok (Some fault) next a is = (cc, cc)

placed-steps : (r : Reading) (last : ℕ) (k : Keyword) (args : List (List ℕ)) (r' : Reading) (b : Bool) → nat_le (rank_of k) 9 ≡ b → r.rank ≡ Some last → fault_of_place last k ≡ None
    → (if b then read_header r k args else read_schedule r k args) ≡ Ok r' → Steps r r'
placed-steps r last k args r' true header behind fine is =
    let set = and_then-ok (header_line k r.setup args) (λ s. Ok (record r { rank = Some (rank_of k); setup = s })) r' is in
    reached r _ r' (sets last k set.0 behind fine header (header_line-changes k r.setup args set.0 set.1)) set.2
placed-steps r last k args r' false schedule behind fine is =
    let said = and_then-ok (schedule_args k (cpus_of r.setup) (length r.acts) args) (λ said. Ok (scheduled r said)) r' is in
    reached r _ r' (schedules last k args said.0 behind fine schedule said.1) said.2

known-steps : (r : Reading) (last : ℕ) (k : Option Keyword) (args : List (List ℕ)) (r' : Reading) → r.rank ≡ Some last → read_known r last k args ≡ Ok r' → Steps r r'
known-steps r last None args r' behind is = cc
known-steps r last (Some k) args r' behind is =
    let fine = unless-ok (fault_of_place last k) (read_placed r k args) r' is in
    placed-steps r last k args r' (nat_le (rank_of k) 9) refl behind fine.0 fine.1

ranked-steps : (r : Reading) (rank : Option ℕ) (first : List ℕ) (args : List (List ℕ)) (r' : Reading) → r.rank ≡ rank → read_ranked r rank first args ≡ Ok r' → Steps r r'
ranked-steps r None first args r' behind is = by_format (format_said first args) is
  where
    by_format : (said : Option Format) → read_format r said ≡ Ok r' → Steps r r'
    by_format None other = cc
    by_format (Some format) same = reached r _ r' (begins format behind) same
ranked-steps r (Some last) first args r' behind is = known-steps r last (keyword_of first) args r' behind is

words-steps : (r : Reading) (ws : List (List ℕ)) (r' : Reading) → read_words r ws ≡ Ok r' → Steps r r'
words-steps r [] r' is = reached r r r' skips is
words-steps r (first ∷ args) r' is = by_comment (is_comment first) is
  where
    by_comment : (b : Bool) → (if b then Ok r else read_ranked r r.rank first args) ≡ Ok r' → Steps r r'
    by_comment true same = reached r r r' skips same
    by_comment false next = ranked-steps r r.rank first args r' refl next

pub read-steps : (r : Reading) (line : List ℕ) (r' : Reading) → read r line ≡ Ok r' → Steps r r'
read-steps r line r' is = words-steps r (words line) r' (if-ok (is_text line) (read_words r (words line)) (Bad NotText) r' is).1

-- what each step keeps holds of what any lines say
module _ (P : Reading → Type 0) (keeps : (r r' : Reading) → Steps r r' → P r → P r') where
  kept_by : (r : Reading) (result : Result Reading LineRefusal) → ((r' : Reading) → result ≡ Ok r' → Steps r r') → P r → P (result_unwrap_or result r)
  kept_by r (Ok r') steps p = keeps r r' (steps r' refl) p
  kept_by r (Err why) steps p = p

  kept_from : (r : Reading) (lines : List (List ℕ)) → P r → P (fold next_reading r lines)
  kept_from r [] p = p
  kept_from r (line ∷ lines) p = kept_from (next_reading r line) lines (kept_by r (read r line) (read-steps r line) p)

  pub kept : (lines : List (List ℕ)) → P nothing_read → P (reading_of lines)
  kept lines p = kept_from nothing_read lines p

-- What happened is read exactly as it is printed.
use Rattle.std.proofs.Common.{Bool, true, false, ◌≡◌, ◌<◌, ◌==◌, ◌^◌, ◌++◌, ℕ, zero, suc, List, [], ◌∷◌, Option, None, Some, IfSome, refl, sym, ap, ◌∙◌, subst, arith, decimal, codes, append-nil, if◌then◌else◌}
use Rattle.std.proofs.lemmas.Bool.Decides.{nat_tests}
use Rattle.std.proofs.lemmas.Slice.Eq.{bytes_eq-Decides}
use Rattle.std.proofs.lemmas.List.Folds.{list_all-append}
use Rattle.std.specs.List.{list_all}
use Rattle.std.specs.Str.{bytes_eq}
use Rattle.lk_names.specs.declared.names.Waiter.{Waiter}
use Rattle.lk_names.specs.declared.names.LockName.{LockName}
use Rattle.lk_names.specs.declared.events.How.{How}
use Rattle.lk_names.specs.declared.events.How.TheVariants as how
use Rattle.lk_names.specs.declared.events.RwHow.{RwHow}
use Rattle.lk_names.specs.declared.events.RwHow.TheVariants as rw_how
use Rattle.lk_names.specs.declared.events.What.{What}
use Rattle.lk_names.specs.declared.events.What.TheVariants as what
use Rattle.lk_forms.specs.Texts.{how_text, rw_text, wait_mark, lock_text, waiter_text, owing_text, moved_text, what_text}
use Rattle.lk_forms.proofs.TextParts.{moved_more}
use Rattle.lk_audit_forms.specs.Parts.{if_some, one_word, two_words, small_number}
use Rattle.lk_audit_forms.specs.EventLines.{how_named, writer_named, reader_named, waiter_named, lock_named, lock_word, take_args, rtake_args, wtake_args, owed_args, owing_args, release_args, some_moved, aside_args, moved_args, pass_args, kick_args, no_args, what_on, what_named}
use Rattle.lk_audit_forms.specs.Exact.{IsShortLock, IsShortWaiter, IsTellable}
use Rattle.lk_audit_forms.proofs.Marks.{lacks, all_lack, behind, decimal_lacks}
use Rattle.lk_audit_forms.proofs.Numbers.{small_printed, small_read}
use Rattle.lk_audit_forms.proofs.Names.{some_then, some_same, one_of, how_read, how_printed, writer_read, writer_printed, reader_read, reader_printed, waiter_printed, waiter_read, lock_printed, lock_read}

abbrev pub owing_words : Option ℕ → List (List ℕ)
owing_words None = []
owing_words (Some p) = codes "owing" ∷ decimal p ∷ []

abbrev pub moved_words : ℕ → List (List ℕ)
moved_words zero = []
moved_words (suc k) = codes "moved" ∷ decimal (suc k) ∷ []

-- the words that are printed, behind the verb
abbrev pub args_of : What → List (List ℕ)
args_of (what.Take l h) = lock_text l ∷ how_text h ∷ []
args_of (what.Miss l) = lock_text l ∷ []
args_of (what.Release l owing) = lock_text l ∷ owing_words owing
args_of (what.Kick p) = decimal p ∷ []
args_of (what.Arrive l) = lock_text l ∷ []
args_of (what.Pass l to k) = lock_text l ∷ waiter_text to ∷ moved_words k
args_of (what.Flush l) = lock_text l ∷ []
args_of (what.Promote l) = lock_text l ∷ []
args_of (what.Leave l) = lock_text l ∷ []
args_of (what.Halt l) = lock_text l ∷ []
args_of (what.Wake l) = lock_text l ∷ []
args_of what.Int = []
args_of what.Nudge = []
args_of (what.RTake l h) = lock_text l ∷ rw_text h ∷ []
args_of (what.RRelease l) = lock_text l ∷ []
args_of (what.WTake l h) = lock_text l ∷ rw_text h ∷ []
args_of (what.WRelease l) = lock_text l ∷ []

-- the verb
abbrev pub verb_of : What → List ℕ
verb_of (what.Take l h) = codes "take"
verb_of (what.Miss l) = codes "miss"
verb_of (what.Release l owing) = codes "release"
verb_of (what.Kick p) = codes "kick"
verb_of (what.Arrive l) = codes "arrive"
verb_of (what.Pass l to k) = codes "pass"
verb_of (what.Flush l) = codes "flush"
verb_of (what.Promote l) = codes "promote"
verb_of (what.Leave l) = codes "leave"
verb_of (what.Halt l) = codes "halt"
verb_of (what.Wake l) = codes "wake"
verb_of what.Int = codes "int"
verb_of what.Nudge = codes "nudge"
verb_of (what.RTake l h) = codes "rtake"
verb_of (what.RRelease l) = codes "rrelease"
verb_of (what.WTake l h) = codes "wtake"
verb_of (what.WRelease l) = codes "wrelease"

-- the words, put together

owing_joined : (o : Option ℕ) → behind 32 (owing_words o) ≡ owing_text o
owing_joined None = refl
owing_joined (Some p) = ap (λ l. codes " owing " ++ l) (append-nil (decimal p))

moved_joined : (k : ℕ) → behind 32 (moved_words k) ≡ moved_text k
moved_joined zero = refl
moved_joined (suc k) = ap (λ l. codes " moved " ++ l) (append-nil (decimal (suc k))) ∙ sym (moved_more k)

two_joined : (a b : List ℕ) → behind 32 (a ∷ b ∷ []) ≡ codes " " ++ (a ++ (codes " " ++ b))
two_joined a b = ap (λ l. 32 ∷ (a ++ 32 ∷ l)) (append-nil b)

one_joined : (a : List ℕ) → behind 32 (a ∷ []) ≡ codes " " ++ a
one_joined a = ap (λ l. 32 ∷ l) (append-nil a)

pub what_joined : (w : What) → verb_of w ++ behind 32 (args_of w) ≡ what_text w
what_joined (what.Take l h) = ap (λ t. codes "take" ++ t) (two_joined (lock_text l) (how_text h))
what_joined (what.Miss l) = ap (λ t. codes "miss" ++ t) (one_joined (lock_text l))
what_joined (what.Release l owing) = ap (λ t. codes "release " ++ (lock_text l ++ t)) (owing_joined owing)
what_joined (what.Kick p) = ap (λ t. codes "kick" ++ t) (one_joined (decimal p))
what_joined (what.Arrive l) = ap (λ t. codes "arrive" ++ t) (one_joined (lock_text l))
what_joined (what.Pass l to k) = ap (λ t. codes "pass " ++ (lock_text l ++ (codes " " ++ (waiter_text to ++ t)))) (moved_joined k)
what_joined (what.Flush l) = ap (λ t. codes "flush" ++ t) (one_joined (lock_text l))
what_joined (what.Promote l) = ap (λ t. codes "promote" ++ t) (one_joined (lock_text l))
what_joined (what.Leave l) = ap (λ t. codes "leave" ++ t) (one_joined (lock_text l))
what_joined (what.Halt l) = ap (λ t. codes "halt" ++ t) (one_joined (lock_text l))
what_joined (what.Wake l) = ap (λ t. codes "wake" ++ t) (one_joined (lock_text l))
what_joined what.Int = refl
what_joined what.Nudge = refl
what_joined (what.RTake l h) = ap (λ t. codes "rtake" ++ t) (two_joined (lock_text l) (rw_text h))
what_joined (what.RRelease l) = ap (λ t. codes "rrelease" ++ t) (one_joined (lock_text l))
what_joined (what.WTake l h) = ap (λ t. codes "wtake" ++ t) (two_joined (lock_text l) (rw_text h))
what_joined (what.WRelease l) = ap (λ t. codes "wrelease" ++ t) (one_joined (lock_text l))

-- no word has a space

append_lacks : (mark : ℕ) (a b : List ℕ) → lacks mark a ≡ true → lacks mark b ≡ true → lacks mark (a ++ b) ≡ true
append_lacks mark a b ha hb = list_all-append _ a b ∙ rw (ha, hb) refl

mark_lacks : (b : Bool) → lacks 32 (wait_mark b) ≡ true
mark_lacks true = refl
mark_lacks false = refl

number_lacks : (n : ℕ) → n < 2 ^ 32 → lacks 32 (decimal n) ≡ true
number_lacks n h = decimal_lacks n 32 (omega (arith, h)) (omega arith)

pub lock_lacks : (l : LockName) → IsShortLock l → lacks 32 (lock_text l) ≡ true
lock_lacks l short = append_lacks 32 (decimal l.index) (wait_mark l.wait) (number_lacks l.index short) (mark_lacks l.wait)

pub waiter_lacks : (w : Waiter) → IsShortWaiter w → lacks 32 (waiter_text w) ≡ true
waiter_lacks w (cpu, ctx) = append_lacks 32 (decimal w.cpu) (46 ∷ decimal w.ctx) (number_lacks w.cpu cpu) (number_lacks w.ctx ctx)

how_lacks : (h : How) → lacks 32 (how_text h) ≡ true
how_lacks how.Fast = refl
how_lacks _ = refl

rw_lacks : (h : RwHow) → lacks 32 (rw_text h) ≡ true
rw_lacks rw_how.Fast = refl
rw_lacks _ = refl

pub verb_lacks : (w : What) → lacks 32 (verb_of w) ≡ true
verb_lacks what.Int = refl
verb_lacks _ = refl

owing_lacks : (o : Option ℕ) → IfSome o (λ p. p < 2 ^ 32) → all_lack 32 (owing_words o) ≡ true
owing_lacks None h = refl
owing_lacks (Some p) h = rw (number_lacks p h) refl

moved_lacks : (k : ℕ) → k < 2 ^ 32 → all_lack 32 (moved_words k) ≡ true
moved_lacks zero h = refl
moved_lacks (suc k) h = rw (number_lacks (suc k) h) refl

one_lacks : (l : LockName) → IsShortLock l → all_lack 32 (lock_text l ∷ []) ≡ true
one_lacks l h = rw (lock_lacks l h) refl

pub args_lack : (w : What) → IsTellable w → all_lack 32 (args_of w) ≡ true
args_lack (what.Take l h) s = rw (lock_lacks l s, how_lacks h) refl
args_lack (what.Miss l) s = one_lacks l s
args_lack (what.Release l owing) s = rw (lock_lacks l s.0) (owing_lacks owing s.1)
args_lack (what.Kick p) s = rw (number_lacks p s) refl
args_lack (what.Arrive l) s = one_lacks l s
args_lack (what.Pass l to k) s = rw (lock_lacks l s.0, waiter_lacks to s.1) (moved_lacks k s.2)
args_lack (what.Flush l) s = one_lacks l s
args_lack (what.Promote l) s = one_lacks l s
args_lack (what.Leave l) s = one_lacks l s
args_lack (what.Halt l) s = one_lacks l s
args_lack (what.Wake l) s = one_lacks l s
args_lack what.Int s = refl
args_lack what.Nudge s = refl
args_lack (what.RTake l h) s = rw (lock_lacks l s, rw_lacks h) refl
args_lack (what.RRelease l) s = one_lacks l s
args_lack (what.WTake l h) s = rw (lock_lacks l s.0, rw_lacks h) refl
args_lack (what.WRelease l) s = one_lacks l s

-- what is printed is read

owing_printed : (o : Option ℕ) → IfSome o (λ p. p < 2 ^ 32) → owing_args (owing_words o) ≡ Some o
owing_printed None h = refl
owing_printed (Some p) h = rw (small_printed p h) refl

moved_printed : (k : ℕ) → k < 2 ^ 32 → moved_args (moved_words k) ≡ Some k
moved_printed zero h = refl
moved_printed (suc k) h =
    let some : (suc k == 0) ≡ false = grind (arith, nat_tests) in
    rw (small_printed (suc k) h, some) refl

pub what_printed : (w : What) → IsTellable w → what_named (verb_of w) (args_of w) ≡ Some w
what_printed (what.Take l h) s = rw (lock_printed l s, how_printed h) refl
what_printed (what.Miss l) s = rw (lock_printed l s) refl
what_printed (what.Release l owing) s = rw (lock_printed l s.0, owing_printed owing s.1) refl
what_printed (what.Kick p) s = rw (small_printed p s) refl
what_printed (what.Arrive l) s = rw (lock_printed l s) refl
what_printed (what.Pass l to k) s = rw (lock_printed l s.0, waiter_printed to s.1, moved_printed k s.2) refl
what_printed (what.Flush l) s = rw (lock_printed l s) refl
what_printed (what.Promote l) s = rw (lock_printed l s) refl
what_printed (what.Leave l) s = rw (lock_printed l s) refl
what_printed (what.Halt l) s = rw (lock_printed l s) refl
what_printed (what.Wake l) s = rw (lock_printed l s) refl
what_printed what.Int s = refl
what_printed what.Nudge s = refl
what_printed (what.RTake l h) s = rw (lock_printed l s, reader_printed h) refl
what_printed (what.RRelease l) s = rw (lock_printed l s) refl
what_printed (what.WTake l h) s = rw (lock_printed l s.0, writer_printed h s.1) refl
what_printed (what.WRelease l) s = rw (lock_printed l s) refl

-- what is read is as it is printed

-- the words are those that are printed for it
abbrev pub IsPrinted : List ℕ → List (List ℕ) → What → Type 0
IsPrinted verb args w = (verb ∷ args ≡ verb_of w ∷ args_of w) × IsTellable w

printed_as : (u : What) (verb : List ℕ) (args : List (List ℕ)) (w : What) → Some u ≡ Some w
    → verb ≡ verb_of u → args ≡ args_of u → IsTellable u → IsPrinted verb args w
printed_as u verb args w made v a t =
    subst (IsPrinted verb args) (some_same u w made)
    (ap (λ x. x ∷ args) v ∙ ap (λ xs. verb_of u ∷ xs) a, t)

one_is : (args : List (List ℕ)) (a : List ℕ) → one_word args ≡ Some a → args ≡ a ∷ []
one_is [] a is = cc
one_is (x ∷ []) a is = ap (λ l. l ∷ []) (some_same x a is)
one_is (x ∷ y ∷ args) a is = cc

two_are : (args : List (List ℕ)) (both : List ℕ × List ℕ) → two_words args ≡ Some both → args ≡ both.0 ∷ both.1 ∷ []
two_are [] both is = cc
two_are (x ∷ []) both is = cc
two_are (x ∷ y ∷ []) both is = ap (λ (p : List ℕ × List ℕ). p.0 ∷ p.1 ∷ []) (some_same (x, y) both is)
two_are (x ∷ y ∷ z ∷ args) both is = cc

-- a test of the verb, and what it leads to
verb_then : (P : Type 0) (verb text : List ℕ) (here rest : Option What) (w : What)
    → (verb ≡ text → here ≡ Some w → P) → (rest ≡ Some w → P)
    → (if bytes_eq verb text then here else rest) ≡ Some w → P
verb_then P verb text here rest w met other is = by_test (bytes_eq verb text) refl is
  where
    by_test : (t : Bool) → bytes_eq verb text ≡ t → (if t then here else rest) ≡ Some w → P
    by_test true e h = met ((bytes_eq-Decides verb text).0 e) h
    by_test false e h = other h

-- two words that are these
both_are : (args : List (List ℕ)) (both : List ℕ × List ℕ) (a b : List ℕ) → two_words args ≡ Some both
    → both.0 ≡ a → both.1 ≡ b → args ≡ a ∷ b ∷ []
both_are args both a b is first second =
    two_are args both is ∙ ap (λ t. t ∷ both.1 ∷ []) first ∙ ap (λ t. a ∷ t ∷ []) second

take_read : (verb : List ℕ) (args : List (List ℕ)) (w : What) → verb ≡ codes "take" → take_args args ≡ Some w → IsPrinted verb args w
take_read verb args w v is =
    some_then (IsPrinted verb args w) (two_words args) _ w is (λ both words more.
    some_then (IsPrinted verb args w) (lock_named both.0) _ w more (λ l lock last.
    some_then (IsPrinted verb args w) (how_named both.1) _ w last (λ h manner made.
    printed_as (what.Take l h) verb args w made v
    (both_are args both (lock_text l) (how_text h) words (lock_read both.0 l lock).0 (how_read both.1 h manner))
    (lock_read both.0 l lock).1)))

rtake_read : (verb : List ℕ) (args : List (List ℕ)) (w : What) → verb ≡ codes "rtake" → rtake_args args ≡ Some w → IsPrinted verb args w
rtake_read verb args w v is =
    some_then (IsPrinted verb args w) (two_words args) _ w is (λ both words more.
    some_then (IsPrinted verb args w) (lock_named both.0) _ w more (λ l lock last.
    some_then (IsPrinted verb args w) (reader_named both.1) _ w last (λ h manner made.
    printed_as (what.RTake l h) verb args w made v
    (both_are args both (lock_text l) (rw_text h) words (lock_read both.0 l lock).0 (reader_read both.1 h manner))
    (lock_read both.0 l lock).1)))

wtake_read : (verb : List ℕ) (args : List (List ℕ)) (w : What) → verb ≡ codes "wtake" → wtake_args args ≡ Some w → IsPrinted verb args w
wtake_read verb args w v is =
    some_then (IsPrinted verb args w) (two_words args) _ w is (λ both words more.
    some_then (IsPrinted verb args w) (lock_named both.0) _ w more (λ l lock last.
    some_then (IsPrinted verb args w) (writer_named both.1) _ w last (λ h manner made.
    printed_as (what.WTake l h) verb args w made v
    (both_are args both (lock_text l) (rw_text h) words (lock_read both.0 l lock).0 (writer_read both.1 h manner).0)
    ((lock_read both.0 l lock).1, (writer_read both.1 h manner).1))))

kick_read : (verb : List ℕ) (args : List (List ℕ)) (w : What) → verb ≡ codes "kick" → kick_args args ≡ Some w → IsPrinted verb args w
kick_read verb args w v is =
    some_then (IsPrinted verb args w) (one_word args) _ w is (λ word words more.
    some_then (IsPrinted verb args w) (small_number word) _ w more (λ p cpu made.
    printed_as (what.Kick p) verb args w made v
    (one_is args word words ∙ ap (λ t. t ∷ []) (small_read word p cpu).0) (small_read word p cpu).1))

-- what stands behind a lock that is released
IsOwing : List (List ℕ) → Option ℕ → Type 0
IsOwing args o = (args ≡ owing_words o) × IfSome o (λ p. p < 2 ^ 32)

owed_read : (args : List (List ℕ)) (p : ℕ) → owed_args args ≡ Some p → IsOwing args (Some p)
unfolding IsOwing
owed_read args p is =
    some_then (IsOwing args (Some p)) (two_words args) _ p is (λ both words more. by_test both words (bytes_eq both.0 (codes "owing")) refl more)
  where
    by_test : (both : List ℕ × List ℕ) → two_words args ≡ Some both → (t : Bool) → bytes_eq both.0 (codes "owing") ≡ t
        → (if t then small_number both.1 else None) ≡ Some p → IsOwing args (Some p)
    by_test both words false e h = cc
    by_test both words true e h = (
      both_are args both (codes "owing") (decimal p) words ((bytes_eq-Decides both.0 (codes "owing")).0 e) (small_read both.1 p h).0,
      (small_read both.1 p h).1,
    )

owing_read : (args : List (List ℕ)) (o : Option ℕ) → owing_args args ≡ Some o → IsOwing args o
unfolding IsOwing
owing_read [] o is = subst (IsOwing []) (some_same None o is) (refl, tt)
owing_read (x ∷ args) o is =
    some_then (IsOwing (x ∷ args) o) (owed_args (x ∷ args)) _ o is (λ p owed made.
    subst (IsOwing (x ∷ args)) (some_same (Some p) o made) (owed_read (x ∷ args) p owed))

release_read : (verb : List ℕ) (args : List (List ℕ)) (w : What) → verb ≡ codes "release" → release_args args ≡ Some w → IsPrinted verb args w
unfolding IsOwing
release_read verb [] w v is = cc
release_read verb (x ∷ rest) w v is =
    some_then (IsPrinted verb (x ∷ rest) w) (lock_named x) _ w is (λ l lock more.
    some_then (IsPrinted verb (x ∷ rest) w) (owing_args rest) _ w more (λ o owing made.
    printed_as (what.Release l o) verb (x ∷ rest) w made v
    (ap (λ t. t ∷ rest) (lock_read x l lock).0 ∙ ap (λ t. lock_text l ∷ t) (owing_read rest o owing).0)
    ((lock_read x l lock).1, (owing_read rest o owing).1)))

-- what stands behind whom the lead goes to
IsMoved : List (List ℕ) → ℕ → Type 0
IsMoved args k = (args ≡ moved_words k) × (k < 2 ^ 32)

moved_is : (n k : ℕ) → some_moved n ≡ Some k → (n ≡ k) × ((m : ℕ) × (n ≡ suc m))
moved_is zero k is = cc
moved_is (suc n) k is =
    let some : (suc n == 0) ≡ false = grind (arith, nat_tests) in
    let shown : Some (suc n) ≡ Some k = rw some at is in
    (some_same (suc n) k shown, (n, refl))

moved_made : (args : List (List ℕ)) (both : List ℕ × List ℕ) (n : ℕ) → two_words args ≡ Some both
    → both.0 ≡ codes "moved" → small_number both.1 ≡ Some n → (m : ℕ) × (n ≡ suc m) → IsMoved args n
unfolding IsMoved
moved_made args both n words word number (m, above) =
    subst (λ k. IsMoved args k) (sym above) (
      both_are args both (codes "moved") (decimal (suc m)) words word ((small_read both.1 n number).0 ∙ ap decimal above),
      subst (λ k. k < 2 ^ 32) above (small_read both.1 n number).1,
    )

aside_read : (args : List (List ℕ)) (k : ℕ) → aside_args args ≡ Some k → IsMoved args k
aside_read args k is =
    some_then (IsMoved args k) (two_words args) _ k is (λ both words more. by_test both words (bytes_eq both.0 (codes "moved")) refl more)
  where
    by_test : (both : List ℕ × List ℕ) → two_words args ≡ Some both → (t : Bool) → bytes_eq both.0 (codes "moved") ≡ t
        → (if t then if_some (small_number both.1) (λ n. some_moved n) else None) ≡ Some k → IsMoved args k
    by_test both words false e h = cc
    by_test both words true e h =
        some_then (IsMoved args k) (small_number both.1) _ k h (λ n number made.
        subst (IsMoved args) (moved_is n k made).0
        (moved_made args both n words ((bytes_eq-Decides both.0 (codes "moved")).0 e) number (moved_is n k made).1))

moved_read : (args : List (List ℕ)) (k : ℕ) → moved_args args ≡ Some k → IsMoved args k
unfolding IsMoved
moved_read [] k is = subst (IsMoved []) (some_same 0 k is) (refl, omega arith)
moved_read (x ∷ args) k is = aside_read (x ∷ args) k is

pass_read : (verb : List ℕ) (args : List (List ℕ)) (w : What) → verb ≡ codes "pass" → pass_args args ≡ Some w → IsPrinted verb args w
unfolding IsMoved
pass_read verb [] w v is = cc
pass_read verb (x ∷ []) w v is = cc
pass_read verb (x ∷ y ∷ rest) w v is =
    some_then (IsPrinted verb (x ∷ y ∷ rest) w) (lock_named x) _ w is (λ l lock more.
    some_then (IsPrinted verb (x ∷ y ∷ rest) w) (waiter_named y) _ w more (λ u to last.
    some_then (IsPrinted verb (x ∷ y ∷ rest) w) (moved_args rest) _ w last (λ k moved made.
    printed_as (what.Pass l u k) verb (x ∷ y ∷ rest) w made v
    (ap (λ t. t ∷ y ∷ rest) (lock_read x l lock).0 ∙ ap (λ t. lock_text l ∷ t ∷ rest) (waiter_read y u to).0
    ∙ ap (λ t. lock_text l ∷ waiter_text u ∷ t) (moved_read rest k moved).0)
    ((lock_read x l lock).1, (waiter_read y u to).1, (moved_read rest k moved).1))))

none_read : (verb : List ℕ) (args : List (List ℕ)) (u w : What) → verb ≡ verb_of u → args_of u ≡ [] → IsTellable u
    → no_args u args ≡ Some w → IsPrinted verb args w
none_read verb [] u w v none t is = printed_as u verb [] w is v (sym none) t
none_read verb (x ∷ args) u w v none t is = cc

-- what happened to a lock alone
on_read : (verb : List ℕ) (args : List (List ℕ)) (w : What) (l : LockName) → lock_word args ≡ Some l
    → what_on verb l ≡ Some w → IsPrinted verb args w
on_read verb args w l on happened =
    one_of P verb (codes "arrive") (what.Arrive l) _ w (λ e. is (what.Arrive l) e refl short)
    (one_of P verb (codes "miss") (what.Miss l) _ w (λ e. is (what.Miss l) e refl short)
    (one_of P verb (codes "rrelease") (what.RRelease l) _ w (λ e. is (what.RRelease l) e refl short)
    (one_of P verb (codes "wrelease") (what.WRelease l) _ w (λ e. is (what.WRelease l) e refl short)
    (one_of P verb (codes "halt") (what.Halt l) _ w (λ e. is (what.Halt l) e refl short)
    (one_of P verb (codes "wake") (what.Wake l) _ w (λ e. is (what.Wake l) e refl short)
    (one_of P verb (codes "leave") (what.Leave l) _ w (λ e. is (what.Leave l) e refl short)
    (one_of P verb (codes "flush") (what.Flush l) _ w (λ e. is (what.Flush l) e refl short)
    (one_of P verb (codes "promote") (what.Promote l) _ w (λ e. is (what.Promote l) e refl short) (λ none. cc))))))))) happened
  where
    P : What → Type 0
    P u = IsPrinted verb args u

    told : (args ≡ lock_text l ∷ []) × IsShortLock l
    told = some_then ((args ≡ lock_text l ∷ []) × IsShortLock l) (one_word args) _ l on (λ word words lock.
        (one_is args word words ∙ ap (λ a. a ∷ []) (lock_read word l lock).0, (lock_read word l lock).1))

    short : IsShortLock l
    short = told.1

    is : (u : What) → verb ≡ verb_of u → args_of u ≡ lock_text l ∷ [] → IsTellable u → IsPrinted verb args u
    is u v words t = printed_as u verb args u refl v (told.0 ∙ sym words) t

pub what_read : (verb : List ℕ) (args : List (List ℕ)) (w : What) → what_named verb args ≡ Some w → IsPrinted verb args w
what_read verb args w is =
    verb_then P verb (codes "take") _ _ w (take_read verb args w)
    (verb_then P verb (codes "release") _ _ w (release_read verb args w)
    (verb_then P verb (codes "pass") _ _ w (pass_read verb args w)
    (verb_then P verb (codes "rtake") _ _ w (rtake_read verb args w)
    (verb_then P verb (codes "wtake") _ _ w (wtake_read verb args w)
    (verb_then P verb (codes "kick") _ _ w (kick_read verb args w)
    (verb_then P verb (codes "int") _ _ w (λ e h. none_read verb args what.Int w e refl tt h)
    (verb_then P verb (codes "nudge") _ _ w (λ e h. none_read verb args what.Nudge w e refl tt h)
    (λ rest. some_then P (lock_word args) _ w rest (λ l on happened. on_read verb args w l on happened))))))))) is
  where
    P : Type 0
    P = IsPrinted verb args w

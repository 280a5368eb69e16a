-- The text of what happened determines it, whatever stands behind it.
use Rattle.std.proofs.Common.{◌≡◌, ◌≤◌, ◌<◌, ◌^◌, ◌==◌, ℕ, zero, suc, Bool, true, false, List, ◌∷◌, ◌++◌, Option, None, Some, is_some, IfSome, refl, sym, ap, ◌∙◌, append_assoc, arith, codes, decimal, nat_lt, ◌||◌, if◌then◌else◌}
use Rattle.std.proofs.lemmas.Bool.Decides.{nat_tests}
use Rattle.std.specs.List.{list_all}
use Rattle.std.specs.Str.{bytes_eq}
use Rattle.std.specs.Char.{digit_value}
use Rattle.lk_names.specs.declared.names.Waiter.{Waiter}
use Rattle.lk_names.specs.declared.names.LockName.{LockName}
use Rattle.lk_names.specs.declared.events.How.{How}
use Rattle.lk_names.specs.declared.events.RwHow.{RwHow}
use Rattle.lk_names.specs.declared.events.What.{What}
use Rattle.lk_names.specs.declared.events.What.TheVariants.{Take, Miss, Release, Kick, Arrive, Pass, Flush, Promote, Leave, Halt, Wake, Int, Nudge, RTake, RRelease, WTake, WRelease}
use Rattle.lk_forms.specs.Texts.{IsSmallLock, IsSmallWaiter, IsSmallWhat, how_text, rw_text, lock_text, waiter_text, owing_text, moved_text, what_text}
use Rattle.lk_forms.proofs.TextParts.{is_letter, number_same, words_same, how_same, rw_same, lock_same, waiter_same, owing_same, moved_more, moved_same}

-- the word for it, and what stands behind that and the byte behind it
name_of : What → List ℕ
name_of (Take l h) = codes "take"
name_of (Miss l) = codes "miss"
name_of (Release l o) = codes "release"
name_of (Kick p) = codes "kick"
name_of (Arrive l) = codes "arrive"
name_of (Pass l w k) = codes "pass"
name_of (Flush l) = codes "flush"
name_of (Promote l) = codes "promote"
name_of (Leave l) = codes "leave"
name_of (Halt l) = codes "halt"
name_of (Wake l) = codes "wake"
name_of Int = codes "int"
name_of Nudge = codes "nudge"
name_of (RTake l h) = codes "rtake"
name_of (RRelease l) = codes "rrelease"
name_of (WTake l h) = codes "wtake"
name_of (WRelease l) = codes "wrelease"

sort_of : What → ℕ
sort_of (Take l h) = 0
sort_of (Miss l) = 1
sort_of (Release l o) = 2
sort_of (Kick p) = 3
sort_of (Arrive l) = 4
sort_of (Pass l w k) = 5
sort_of (Flush l) = 6
sort_of (Promote l) = 7
sort_of (Leave l) = 8
sort_of (Halt l) = 9
sort_of (Wake l) = 10
sort_of Int = 11
sort_of Nudge = 12
sort_of (RTake l h) = 13
sort_of (RRelease l) = 14
sort_of (WTake l h) = 15
sort_of (WRelease l) = 16

sort_named : List ℕ → ℕ
sort_named word =
    if bytes_eq word (codes "take") then 0
    else if bytes_eq word (codes "miss") then 1
    else if bytes_eq word (codes "release") then 2
    else if bytes_eq word (codes "kick") then 3
    else if bytes_eq word (codes "arrive") then 4
    else if bytes_eq word (codes "pass") then 5
    else if bytes_eq word (codes "flush") then 6
    else if bytes_eq word (codes "promote") then 7
    else if bytes_eq word (codes "leave") then 8
    else if bytes_eq word (codes "halt") then 9
    else if bytes_eq word (codes "wake") then 10
    else if bytes_eq word (codes "int") then 11
    else if bytes_eq word (codes "nudge") then 12
    else if bytes_eq word (codes "rtake") then 13
    else if bytes_eq word (codes "rrelease") then 14
    else if bytes_eq word (codes "wtake") then 15
    else 16

sort_named-name : (w : What) → sort_named (name_of w) ≡ sort_of w
unfolding sort_named sort_of name_of
sort_named-name Int = refl
sort_named-name _ = refl

name_letters : (w : What) → list_all is_letter (name_of w) ≡ true
unfolding is_letter name_of
name_letters Int = refl
name_letters _ = refl

-- the byte behind the word
byte_of : What → ℕ
byte_of Int = 10
byte_of Nudge = 10
byte_of _ = 32

no_letter : (w : What) → is_letter (byte_of w) ≡ false
unfolding is_letter byte_of
no_letter Int = refl
no_letter _ = refl

-- what stands behind that byte, up to the line feed, and then r
rest_of : What → List ℕ → List ℕ
rest_of (Take l h) r = (lock_text l ++ (codes " " ++ how_text h)) ++ 10 ∷ r
rest_of (Miss l) r = lock_text l ++ 10 ∷ r
rest_of (Release l o) r = (lock_text l ++ owing_text o) ++ 10 ∷ r
rest_of (Kick p) r = decimal p ++ 10 ∷ r
rest_of (Arrive l) r = lock_text l ++ 10 ∷ r
rest_of (Pass l w k) r = (lock_text l ++ (codes " " ++ (waiter_text w ++ moved_text k))) ++ 10 ∷ r
rest_of (Flush l) r = lock_text l ++ 10 ∷ r
rest_of (Promote l) r = lock_text l ++ 10 ∷ r
rest_of (Leave l) r = lock_text l ++ 10 ∷ r
rest_of (Halt l) r = lock_text l ++ 10 ∷ r
rest_of (Wake l) r = lock_text l ++ 10 ∷ r
rest_of Int r = r
rest_of Nudge r = r
rest_of (RTake l h) r = (lock_text l ++ (codes " " ++ rw_text h)) ++ 10 ∷ r
rest_of (RRelease l) r = lock_text l ++ 10 ∷ r
rest_of (WTake l h) r = (lock_text l ++ (codes " " ++ rw_text h)) ++ 10 ∷ r
rest_of (WRelease l) r = lock_text l ++ 10 ∷ r

what_parts : (w : What) (r : List ℕ) → what_text w ++ 10 ∷ r ≡ name_of w ++ byte_of w ∷ rest_of w r
unfolding name_of byte_of rest_of
what_parts Int r = refl
what_parts _ r = refl

-- a lock alone
lock_end : (l k : LockName) (r s : List ℕ) → IsSmallLock l → IsSmallLock k → lock_text l ++ 10 ∷ r ≡ lock_text k ++ 10 ∷ s → (l ≡ k) × (r ≡ s)
lock_end l k r s hl hk is =
    let same = lock_same l k 10 10 r s hl hk (omega arith) (omega arith) refl refl is in
    (same.0, cc (same.1))

-- a lock, and how it was taken
take_end : (l k : LockName) (h j : How) (r s : List ℕ) → IsSmallLock l → IsSmallLock k → (lock_text l ++ (codes " " ++ how_text h)) ++ 10 ∷ r ≡ (lock_text k ++ (codes " " ++ how_text j)) ++ 10 ∷ s
    → (l ≡ k) × (h ≡ j) × (r ≡ s)
take_end l k h j r s hl hk is =
    let apart = sym (append_assoc (lock_text l) (codes " " ++ how_text h) (10 ∷ r)) ∙ is ∙ append_assoc (lock_text k) (codes " " ++ how_text j) (10 ∷ s) in
    let lock = lock_same l k 32 32 (how_text h ++ 10 ∷ r) (how_text j ++ 10 ∷ s) hl hk (omega arith) (omega arith) refl refl apart in
    let how = how_same h j r s (cc (lock.1)) in
    (lock.0, how.0, how.1)

rw_take_end : (l k : LockName) (h j : RwHow) (r s : List ℕ) → IsSmallLock l → IsSmallLock k → (lock_text l ++ (codes " " ++ rw_text h)) ++ 10 ∷ r ≡ (lock_text k ++ (codes " " ++ rw_text j)) ++ 10 ∷ s
    → (l ≡ k) × (h ≡ j) × (r ≡ s)
rw_take_end l k h j r s hl hk is =
    let apart = sym (append_assoc (lock_text l) (codes " " ++ rw_text h) (10 ∷ r)) ∙ is ∙ append_assoc (lock_text k) (codes " " ++ rw_text j) (10 ∷ s) in
    let lock = lock_same l k 32 32 (rw_text h ++ 10 ∷ r) (rw_text j ++ 10 ∷ s) hl hk (omega arith) (omega arith) refl refl apart in
    let how = rw_same h j r s (cc (lock.1)) in
    (lock.0, how.0, how.1)

-- a part that may be missing begins with a space, and else there is the line feed
part_first : Bool → ℕ
part_first true = 32
part_first false = 10

part_digit : (b : Bool) → 10 ≤ digit_value (part_first b)
unfolding part_first
part_digit true = omega arith
part_digit false = omega arith

part_mark : (b : Bool) → (part_first b == 119) ≡ false
unfolding part_first
part_mark true = refl
part_mark false = refl

owing_after : Option ℕ → List ℕ → List ℕ
owing_after None r = r
owing_after (Some p) r = codes "owing " ++ decimal p ++ 10 ∷ r

owing_is : (o : Option ℕ) (r : List ℕ) → owing_text o ++ 10 ∷ r ≡ part_first (is_some o) ∷ owing_after o r
unfolding part_first owing_after
owing_is None r = refl
owing_is (Some p) r = refl

release_end : (l k : LockName) (o p : Option ℕ) (r s : List ℕ) → IsSmallLock l → IsSmallLock k → IfSome o (λ n. n < 2 ^ 64) → IfSome p (λ n. n < 2 ^ 64)
    → (lock_text l ++ owing_text o) ++ 10 ∷ r ≡ (lock_text k ++ owing_text p) ++ 10 ∷ s → (l ≡ k) × (o ≡ p) × (r ≡ s)
release_end l k o p r s hl hk ho hp is =
    let apart = sym (append_assoc (lock_text l) (owing_text o) (10 ∷ r)) ∙ is ∙ append_assoc (lock_text k) (owing_text p) (10 ∷ s) in
    let shown = rw (owing_is o r, owing_is p s) at apart in
    let lock = lock_same l k (part_first (is_some o)) (part_first (is_some p)) (owing_after o r) (owing_after p s) hl hk (part_digit _) (part_digit _) (part_mark _) (part_mark _) shown in
    let owing = owing_same o p r s ho hp (owing_is o r ∙ lock.1 ∙ sym (owing_is p s)) in
    (lock.0, owing.0, owing.1)

moved_after : ℕ → List ℕ → List ℕ
moved_after zero r = r
moved_after (suc n) r = (codes "moved " ++ decimal (suc n)) ++ 10 ∷ r

moved_is : (n : ℕ) (r : List ℕ) → moved_text n ++ 10 ∷ r ≡ part_first (nat_lt 0 n) ∷ moved_after n r
unfolding part_first moved_after
moved_is zero r = refl
moved_is (suc n) r = let some : nat_lt 0 (suc n) ≡ true = grind (arith, nat_tests) in rw (moved_more n, some) refl

pass_end : (l k : LockName) (u v : Waiter) (m n : ℕ) (r s : List ℕ) → IsSmallWhat (Pass l u m) → IsSmallWhat (Pass k v n)
    → (lock_text l ++ (codes " " ++ (waiter_text u ++ moved_text m))) ++ 10 ∷ r ≡ (lock_text k ++ (codes " " ++ (waiter_text v ++ moved_text n))) ++ 10 ∷ s
    → (l ≡ k) × (u ≡ v) × (m ≡ n) × (r ≡ s)
pass_end l k u v m n r s hl hk is =
    let apart = sym (append_assoc (lock_text l) (codes " " ++ (waiter_text u ++ moved_text m)) (10 ∷ r)) ∙ is ∙ append_assoc (lock_text k) (codes " " ++ (waiter_text v ++ moved_text n)) (10 ∷ s) in
    let lock = lock_same l k 32 32 ((waiter_text u ++ moved_text m) ++ 10 ∷ r) ((waiter_text v ++ moved_text n) ++ 10 ∷ s) hl.0 hk.0 (omega arith) (omega arith) refl refl apart in
    let tails : (waiter_text u ++ moved_text m) ++ 10 ∷ r ≡ (waiter_text v ++ moved_text n) ++ 10 ∷ s = cc (lock.1) in
    let behind = sym (append_assoc (waiter_text u) (moved_text m) (10 ∷ r)) ∙ tails ∙ append_assoc (waiter_text v) (moved_text n) (10 ∷ s) in
    let shown = rw (moved_is m r, moved_is n s) at behind in
    let waiter = waiter_same u v (part_first (nat_lt 0 m)) (part_first (nat_lt 0 n)) (moved_after m r) (moved_after n s) hl.1 hk.1 (part_digit _) (part_digit _) shown in
    let moved = moved_same m n r s hl.2 hk.2 (moved_is m r ∙ waiter.1 ∙ sym (moved_is n s)) in
    (lock.0, waiter.0, moved.0, moved.1)

-- What happened, by the form of its text: the events that name a lock alone, and the two that name nothing, are told apart by
-- their sort.
data Form : Type 0 where
  lock_alone : ℕ → LockName → Form
  taken : LockName → How → Form
  rw_taken : ℕ → LockName → RwHow → Form
  released : LockName → Option ℕ → Form
  kicked : ℕ → Form
  passed : LockName → Waiter → ℕ → Form
  bare : ℕ → Form

form_of : What → Form
form_of (Take l h) = taken l h
form_of (Release l o) = released l o
form_of (Kick p) = kicked p
form_of (Pass l w k) = passed l w k
form_of Int = bare 11
form_of Nudge = bare 12
form_of (RTake l h) = rw_taken 13 l h
form_of (WTake l h) = rw_taken 15 l h
form_of (Miss l) = lock_alone 1 l
form_of (Arrive l) = lock_alone 4 l
form_of (Flush l) = lock_alone 6 l
form_of (Promote l) = lock_alone 7 l
form_of (Leave l) = lock_alone 8 l
form_of (Halt l) = lock_alone 9 l
form_of (Wake l) = lock_alone 10 l
form_of (RRelease l) = lock_alone 14 l
form_of (WRelease l) = lock_alone 16 l

on_lock : ℕ → LockName → What
on_lock n l =
    if n == 1 then Miss l
    else if n == 4 then Arrive l
    else if n == 6 then Flush l
    else if n == 7 then Promote l
    else if n == 8 then Leave l
    else if n == 9 then Halt l
    else if n == 10 then Wake l
    else if n == 14 then RRelease l
    else WRelease l

what_of : Form → What
what_of (lock_alone n l) = on_lock n l
what_of (taken l h) = Take l h
what_of (rw_taken n l h) = if n == 13 then RTake l h else WTake l h
what_of (released l o) = Release l o
what_of (kicked p) = Kick p
what_of (passed l w k) = Pass l w k
what_of (bare n) = if n == 11 then Int else Nudge

what_of-form : (w : What) → what_of (form_of w) ≡ w
unfolding what_of form_of on_lock
what_of-form Int = refl
what_of-form _ = refl

sort_in : Form → ℕ
sort_in (lock_alone n l) = n
sort_in (taken l h) = 0
sort_in (rw_taken n l h) = n
sort_in (released l o) = 2
sort_in (kicked p) = 3
sort_in (passed l w k) = 5
sort_in (bare n) = n

sort_in-form : (w : What) → sort_in (form_of w) ≡ sort_of w
unfolding sort_in form_of sort_of
sort_in-form Int = refl
sort_in-form _ = refl

-- which form a sort has
shape_of_sort : ℕ → ℕ
shape_of_sort n =
    if n == 0 then 1
    else if n == 2 then 3
    else if n == 3 then 4
    else if n == 5 then 5
    else if (n == 11) || (n == 12) then 6
    else if (n == 13) || (n == 15) then 2
    else 0

shape_of : Form → ℕ
shape_of (lock_alone n l) = 0
shape_of (taken l h) = 1
shape_of (rw_taken n l h) = 2
shape_of (released l o) = 3
shape_of (kicked p) = 4
shape_of (passed l w k) = 5
shape_of (bare n) = 6

shape_of-sort : (w : What) → shape_of_sort (sort_of w) ≡ shape_of (form_of w)
unfolding shape_of_sort sort_of shape_of form_of
shape_of-sort Int = refl
shape_of-sort _ = refl

IsSmallForm : Form → Type 0
IsSmallForm (lock_alone n l) = IsSmallLock l
IsSmallForm (taken l h) = IsSmallLock l
IsSmallForm (rw_taken n l h) = IsSmallLock l
IsSmallForm (released l o) = IsSmallLock l × IfSome o (λ p. p < 2 ^ 64)
IsSmallForm (kicked p) = p < 2 ^ 64
IsSmallForm (passed l w k) = IsSmallLock l × IsSmallWaiter w × (k < 2 ^ 64)
IsSmallForm (bare n) = Unit {0}

small_form : (w : What) → IsSmallWhat w → IsSmallForm (form_of w)
unfolding IsSmallForm form_of
small_form Int h = tt
small_form _ h = h

rest_in : Form → List ℕ → List ℕ
rest_in (lock_alone n l) r = lock_text l ++ 10 ∷ r
rest_in (taken l h) r = (lock_text l ++ (codes " " ++ how_text h)) ++ 10 ∷ r
rest_in (rw_taken n l h) r = (lock_text l ++ (codes " " ++ rw_text h)) ++ 10 ∷ r
rest_in (released l o) r = (lock_text l ++ owing_text o) ++ 10 ∷ r
rest_in (kicked p) r = decimal p ++ 10 ∷ r
rest_in (passed l w k) r = (lock_text l ++ (codes " " ++ (waiter_text w ++ moved_text k))) ++ 10 ∷ r
rest_in (bare n) r = r

rest_in-form : (w : What) (r : List ℕ) → rest_in (form_of w) r ≡ rest_of w r
unfolding rest_in form_of rest_of
rest_in-form Int r = refl
rest_in-form _ r = refl

-- equal rests of one sort make equal forms
form_same : (a b : Form) (r s : List ℕ) → IsSmallForm a → IsSmallForm b → shape_of a ≡ shape_of b → sort_in a ≡ sort_in b → rest_in a r ≡ rest_in b s → (a ≡ b) × (r ≡ s)
unfolding IsSmallForm shape_of sort_in rest_in
form_same (lock_alone m l) (lock_alone n k) r s ha hb shape sort is = let e = lock_end l k r s ha hb is in (cc (sort, e.0), e.1)
form_same (lock_alone m l) _ r s ha hb shape sort is = cc
form_same (taken l h) (taken k j) r s ha hb shape sort is = let e = take_end l k h j r s ha hb is in (cc (e.0, e.1), e.2)
form_same (taken l h) _ r s ha hb shape sort is = cc
form_same (rw_taken m l h) (rw_taken n k j) r s ha hb shape sort is = let e = rw_take_end l k h j r s ha hb is in (cc (sort, e.0, e.1), e.2)
form_same (rw_taken m l h) _ r s ha hb shape sort is = cc
form_same (released l o) (released k p) r s ha hb shape sort is = let e = release_end l k o p r s ha.0 hb.0 ha.1 hb.1 is in (cc (e.0, e.1), e.2)
form_same (released l o) _ r s ha hb shape sort is = cc
form_same (kicked p) (kicked q) r s ha hb shape sort is = let e = number_same p q 10 10 r s ha hb (omega arith) (omega arith) is in (ap kicked e.0, cc (e.1))
form_same (kicked p) _ r s ha hb shape sort is = cc
form_same (passed l u m) (passed k v n) r s ha hb shape sort is = let e = pass_end l k u v m n r s ha hb is in (cc (e.0, e.1, e.2), e.3)
form_same (passed l u m) _ r s ha hb shape sort is = cc
form_same (bare m) (bare n) r s ha hb shape sort is = (ap bare sort, is)
form_same (bare m) _ r s ha hb shape sort is = cc

rest_same : (a b : What) (r s : List ℕ) → IsSmallWhat a → IsSmallWhat b → sort_of a ≡ sort_of b → rest_of a r ≡ rest_of b s → (a ≡ b) × (r ≡ s)
rest_same a b r s ha hb sort is =
    let shape = sym (shape_of-sort a) ∙ ap shape_of_sort sort ∙ shape_of-sort b in
    let sorts = sort_in-form a ∙ sort ∙ sym (sort_in-form b) in
    let same = form_same (form_of a) (form_of b) r s (small_form a ha) (small_form b hb) shape sorts (rest_in-form a r ∙ is ∙ sym (rest_in-form b s)) in
    (sym (what_of-form a) ∙ ap what_of same.0 ∙ what_of-form b, same.1)

pub what_same : (a b : What) (r s : List ℕ) → IsSmallWhat a → IsSmallWhat b → what_text a ++ 10 ∷ r ≡ what_text b ++ 10 ∷ s → (a ≡ b) × (r ≡ s)
what_same a b r s ha hb is =
    let parts = words_same (name_of a) (name_of b) (byte_of a) (byte_of b) (rest_of a r) (rest_of b s) (name_letters a) (name_letters b) (no_letter a) (no_letter b)
    (sym (what_parts a r) ∙ is ∙ what_parts b s) in
    let sort = sym (sort_named-name a) ∙ ap sort_named parts.0 ∙ sort_named-name b in
    rest_same a b r s ha hb sort (cc (parts.1))

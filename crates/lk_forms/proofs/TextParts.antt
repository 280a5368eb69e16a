-- Each part of a line of a transcript determines what it tells, whatever stands behind it.
use Rattle.std.proofs.Common.{◌≡◌, ◌≤◌, ◌<◌, ◌^◌, ◌==◌, ℕ, zero, suc, Bool, true, false, List, [], ◌∷◌, ◌++◌, Option, None, Some, IfSome, refl, sym, ap, true≢false, ◌∙◌, append_assoc, arith, codes, decimal, nat_le, ◌&&◌, ◌||◌, if◌then◌else◌}
use Rattle.std.proofs.lemmas.Bool.Decides.{nat_tests}
use Rattle.std.proofs.lemmas.Fmt.{decimal_is_IsNumeral, decimal_injective}
use Rattle.std.specs.List.{list_all}
use Rattle.std.specs.Str.{bytes_eq}
use Rattle.std.specs.Char.{digit_value}
use Rattle.std.specs.Str.Parse.{AllDigits}
use Rattle.lk_names.specs.declared.names.Waiter.{Waiter}
use Rattle.lk_names.specs.declared.names.LockName.{LockName}
use Rattle.lk_names.specs.declared.events.How.{How}
use Rattle.lk_names.specs.declared.events.How.TheVariants as how
use Rattle.lk_names.specs.declared.events.RwHow.{RwHow}
use Rattle.lk_names.specs.declared.events.RwHow.TheVariants as rw_how
use Rattle.lk_text.proofs.NumberLemmas.{and_split}
use Rattle.lk_forms.specs.Texts.{how_text, rw_text, wait_mark, lock_text, waiter_text, owing_text, moved_text}

-- numbers, each with another byte behind it

digits_same : (ds es : List ℕ) (c d : ℕ) (r s : List ℕ) → AllDigits 10 ds → AllDigits 10 es → 10 ≤ digit_value c → 10 ≤ digit_value d
    → ds ++ c ∷ r ≡ es ++ d ∷ s → (ds ≡ es) × (c ∷ r ≡ d ∷ s)
digits_same [] [] c d r s ds es hc hd is = (refl, is)
digits_same [] (e ∷ es) c d r s ds all hc hd is = let same : c ≡ e = cc in absurd (omega (arith, all.0, ap digit_value same))
digits_same (x ∷ ds) [] c d r s all es hc hd is = let same : x ≡ d = cc in absurd (omega (arith, all.0, ap digit_value same))
digits_same (x ∷ ds) (e ∷ es) c d r s all also hc hd is =
    let head : x ≡ e = cc in
    let tail : ds ++ c ∷ r ≡ es ++ d ∷ s = cc in
    let rest = digits_same ds es c d r s all.1 also.1 hc hd tail in
    (cc (head, rest.0), rest.1)

pub number_same : (m n c d : ℕ) (r s : List ℕ) → m < 2 ^ 64 → n < 2 ^ 64 → 10 ≤ digit_value c → 10 ≤ digit_value d
    → decimal m ++ c ∷ r ≡ decimal n ++ d ∷ s → (m ≡ n) × (c ∷ r ≡ d ∷ s)
number_same m n c d r s hm hn hc hd is =
    let same = digits_same (decimal m) (decimal n) c d r s (decimal_is_IsNumeral m hm).0.1 (decimal_is_IsNumeral n hn).0.1 hc hd is in
    (decimal_injective m n hm hn same.0, same.1)

-- words, each with a byte behind it that no word has

unfoldable pub is_letter : ℕ → Bool
is_letter b = nat_le 95 b || (nat_le 48 b && nat_le b 57)

pub words_same : (ds es : List ℕ) (c d : ℕ) (r s : List ℕ) → list_all is_letter ds ≡ true → list_all is_letter es ≡ true → is_letter c ≡ false → is_letter d ≡ false
    → ds ++ c ∷ r ≡ es ++ d ∷ s → (ds ≡ es) × (c ∷ r ≡ d ∷ s)
words_same [] [] c d r s hd he hc hf is = (refl, is)
words_same [] (e ∷ es) c d r s hd he hc hf is =
    let same : c ≡ e = cc in
    let parts = and_split _ _ he in
    absurd (true≢false (sym parts.0 ∙ ap is_letter (sym same) ∙ hc))
words_same (x ∷ ds) [] c d r s hd he hc hf is =
    let same : x ≡ d = cc in
    let parts = and_split _ _ hd in
    absurd (true≢false (sym parts.0 ∙ ap is_letter same ∙ hf))
words_same (x ∷ ds) (e ∷ es) c d r s hd he hc hf is =
    let head : x ≡ e = cc in
    let tail : ds ++ c ∷ r ≡ es ++ d ∷ s = cc in
    let hd' = and_split (is_letter x) (list_all is_letter ds) hd in
    let he' = and_split (is_letter e) (list_all is_letter es) he in
    let rest = words_same ds es c d r s hd'.1 he'.1 hc hf tail in
    (cc (head, rest.0), rest.1)

pub space_apart : is_letter 32 ≡ false
unfolding is_letter
space_apart = refl

-- how a lock was taken

how_named : List ℕ → Option How
how_named word =
    if bytes_eq word (codes "fast") then Some how.Fast
    else if bytes_eq word (codes "try") then Some how.Try
    else if bytes_eq word (codes "pending") then Some how.Pending
    else if bytes_eq word (codes "virt") then Some how.Virt
    else if bytes_eq word (codes "retry") then Some how.Retry
    else if bytes_eq word (codes "nonode") then Some how.NoNode
    else if bytes_eq word (codes "steal") then Some how.Steal
    else if bytes_eq word (codes "head") then Some how.Head
    else Some how.Sole

how_named-text : (h : How) → how_named (how_text h) ≡ Some h
unfolding how_named
how_named-text how.Fast = refl
how_named-text _ = refl

how_letters : (h : How) → list_all is_letter (how_text h) ≡ true
unfolding is_letter
how_letters how.Fast = refl
how_letters _ = refl

pub how_same : (h k : How) (r s : List ℕ) → how_text h ++ 10 ∷ r ≡ how_text k ++ 10 ∷ s → (h ≡ k) × (r ≡ s)
unfolding is_letter
how_same h k r s is =
    let parts = words_same (how_text h) (how_text k) 10 10 r s (how_letters h) (how_letters k) refl refl is in
    let named : Some h ≡ Some k = sym (how_named-text h) ∙ ap how_named parts.0 ∙ how_named-text k in
    (cc (named), cc (parts.1))

rw_named : List ℕ → Option RwHow
rw_named word =
    if bytes_eq word (codes "fast") then Some rw_how.Fast
    else if bytes_eq word (codes "irq") then Some rw_how.Irq
    else if bytes_eq word (codes "queued") then Some rw_how.Queued
    else Some rw_how.Try

rw_named-text : (h : RwHow) → rw_named (rw_text h) ≡ Some h
unfolding rw_named
rw_named-text rw_how.Fast = refl
rw_named-text _ = refl

rw_letters : (h : RwHow) → list_all is_letter (rw_text h) ≡ true
unfolding is_letter
rw_letters rw_how.Fast = refl
rw_letters _ = refl

pub rw_same : (h k : RwHow) (r s : List ℕ) → rw_text h ++ 10 ∷ r ≡ rw_text k ++ 10 ∷ s → (h ≡ k) × (r ≡ s)
unfolding is_letter
rw_same h k r s is =
    let parts = words_same (rw_text h) (rw_text k) 10 10 r s (rw_letters h) (rw_letters k) refl refl is in
    let named : Some h ≡ Some k = sym (rw_named-text h) ∙ ap rw_named parts.0 ∙ rw_named-text k in
    (cc (named), cc (parts.1))

-- locks and waiters

-- a lock, with a byte behind it that is neither a digit nor the mark of a wait lock
marks_same : (b e : Bool) (c d : ℕ) (r s : List ℕ) → (c == 119) ≡ false → (d == 119) ≡ false → wait_mark b ++ c ∷ r ≡ wait_mark e ++ d ∷ s → (b ≡ e) × (c ∷ r ≡ d ∷ s)
marks_same true true c d r s hc hd is = (refl, cc)
marks_same false false c d r s hc hd is = (refl, is)
marks_same true false c d r s hc hd is = let same : 119 ≡ d = cc in absurd (true≢false (ap (λ n. n == 119) same ∙ hd))
marks_same false true c d r s hc hd is = let same : c ≡ 119 = cc in absurd (true≢false (sym (ap (λ n. n == 119) same) ∙ hc))

first_of_mark : Bool → ℕ → ℕ
first_of_mark true c = 119
first_of_mark false c = c

after_mark : Bool → ℕ → List ℕ → List ℕ
after_mark true c r = c ∷ r
after_mark false c r = r

mark_is : (b : Bool) (c : ℕ) (r : List ℕ) → wait_mark b ++ c ∷ r ≡ first_of_mark b c ∷ after_mark b c r
unfolding first_of_mark after_mark
mark_is true c r = refl
mark_is false c r = refl

no_digit_first : (b : Bool) (c : ℕ) → 10 ≤ digit_value c → 10 ≤ digit_value (first_of_mark b c)
unfolding first_of_mark
no_digit_first true c h = omega arith
no_digit_first false c h = h

lock_is : (l k : LockName) → l.index ≡ k.index → l.wait ≡ k.wait → l ≡ k
lock_is l k p q =
    let by_index : ℕ → LockName = λ n. record { index = n; wait = l.wait } in
    let by_mark : Bool → LockName = λ b. record { index = k.index; wait = b } in
    ap by_index p ∙ ap by_mark q

pub lock_same : (l k : LockName) (c d : ℕ) (r s : List ℕ) → l.index < 2 ^ 64 → k.index < 2 ^ 64 → 10 ≤ digit_value c → 10 ≤ digit_value d → (c == 119) ≡ false → (d == 119) ≡ false
    → lock_text l ++ c ∷ r ≡ lock_text k ++ d ∷ s → (l ≡ k) × (c ∷ r ≡ d ∷ s)
lock_same l k c d r s hl hk hc hd wc wd is =
    let apart : decimal l.index ++ (wait_mark l.wait ++ c ∷ r) ≡ decimal k.index ++ (wait_mark k.wait ++ d ∷ s) =
    sym (append_assoc (decimal l.index) (wait_mark l.wait) (c ∷ r)) ∙ is ∙ append_assoc (decimal k.index) (wait_mark k.wait) (d ∷ s) in
    let shown = rw (mark_is l.wait c r, mark_is k.wait d s) at apart in
    let number = number_same l.index k.index (first_of_mark l.wait c) (first_of_mark k.wait d) (after_mark l.wait c r) (after_mark k.wait d s) hl hk (no_digit_first l.wait c hc) (no_digit_first k.wait d hd) shown in
    let mark = marks_same l.wait k.wait c d r s wc wd (mark_is l.wait c r ∙ number.1 ∙ sym (mark_is k.wait d s)) in
    (lock_is l k number.0 mark.0, mark.1)

waiter_is : (u v : Waiter) → u.cpu ≡ v.cpu → u.ctx ≡ v.ctx → u ≡ v
waiter_is u v p q =
    let by_cpu : ℕ → Waiter = λ n. record { cpu = n; ctx = u.ctx } in
    let by_ctx : ℕ → Waiter = λ n. record { cpu = v.cpu; ctx = n } in
    ap by_cpu p ∙ ap by_ctx q

pub waiter_same : (u v : Waiter) (c d : ℕ) (r s : List ℕ) → (u.cpu < 2 ^ 64) × (u.ctx < 2 ^ 64) → (v.cpu < 2 ^ 64) × (v.ctx < 2 ^ 64) → 10 ≤ digit_value c → 10 ≤ digit_value d
    → waiter_text u ++ c ∷ r ≡ waiter_text v ++ d ∷ s → (u ≡ v) × (c ∷ r ≡ d ∷ s)
waiter_same u v c d r s hu hv hc hd is =
    let apart : decimal u.cpu ++ 46 ∷ (decimal u.ctx ++ c ∷ r) ≡ decimal v.cpu ++ 46 ∷ (decimal v.ctx ++ d ∷ s) =
    sym (append_assoc (decimal u.cpu) (codes "." ++ decimal u.ctx) (c ∷ r)) ∙ is ∙ append_assoc (decimal v.cpu) (codes "." ++ decimal v.ctx) (d ∷ s) in
    let cpu = number_same u.cpu v.cpu 46 46 (decimal u.ctx ++ c ∷ r) (decimal v.ctx ++ d ∷ s) hu.0 hv.0 (omega arith) (omega arith) apart in
    let ctx = number_same u.ctx v.ctx c d r s hu.1 hv.1 hc hd (cc (cpu.1)) in
    (waiter_is u v cpu.0 ctx.0, ctx.1)

-- the parts that may be missing

feed_or_space : (r s : List ℕ) → ◌≡◌ {A = List ℕ} (10 ∷ r) (32 ∷ s) → ⊥
feed_or_space r s is = let heads : ◌≡◌ {A = ℕ} 10 32 = cc in omega (arith, heads)

pub owing_same : (o p : Option ℕ) (r s : List ℕ) → IfSome o (λ n. n < 2 ^ 64) → IfSome p (λ n. n < 2 ^ 64) → owing_text o ++ 10 ∷ r ≡ owing_text p ++ 10 ∷ s → (o ≡ p) × (r ≡ s)
owing_same None None r s ho hp is = (refl, cc)
owing_same None (Some q) r s ho hp is = absurd (feed_or_space _ _ is)
owing_same (Some p) None r s ho hp is = absurd (feed_or_space _ _ (sym is))
owing_same (Some p) (Some q) r s hp hq is =
    let behind : decimal p ++ 10 ∷ r ≡ decimal q ++ 10 ∷ s = cc in
    let same = number_same p q 10 10 r s hp hq (omega arith) (omega arith) behind in
    (ap Some same.0, cc (same.1))

pub moved_more : (n : ℕ) → moved_text (suc n) ≡ codes " moved " ++ decimal (suc n)
moved_more n = let some : (suc n == 0) ≡ false = grind (arith, nat_tests) in rw some refl

pub moved_same : (m n : ℕ) (r s : List ℕ) → m < 2 ^ 64 → n < 2 ^ 64 → moved_text m ++ 10 ∷ r ≡ moved_text n ++ 10 ∷ s → (m ≡ n) × (r ≡ s)
moved_same zero zero r s hm hn is = (refl, cc)
moved_same zero (suc n) r s hm hn is = absurd (feed_or_space _ _ (rw (moved_more n) at is))
moved_same (suc m) zero r s hm hn is = absurd (feed_or_space _ _ (sym (rw (moved_more m) at is)))
moved_same (suc m) (suc n) r s hm hn is =
    let shown = rw (moved_more m, moved_more n) at is in
    let behind : decimal (suc m) ++ 10 ∷ r ≡ decimal (suc n) ++ 10 ∷ s = cc in
    let same = number_same (suc m) (suc n) 10 10 r s hm hn (omega arith) (omega arith) behind in
    (same.0, cc (same.1))

-- What is printed for an event is one short line.
use Rattle.std.proofs.Common.{Bool, true, false, ◌≡◌, ◌≤◌, ◌<◌, ◌+◌, ◌==◌, ◌++◌, ◌^◌, not, ℕ, zero, suc, List, [], ◌∷◌, Option, None, Some, IfSome, length, nat_le, refl, sym, ap, subst, ◌∙◌, arith, append_assoc, codes, decimal}
use Rattle.std.proofs.lemmas.Bool.{eq-eqb}
use Rattle.std.proofs.lemmas.Bool.Decides.{nat_tests}
use Rattle.std.proofs.lemmas.List.{length-append}
use Rattle.std.proofs.lemmas.List.Folds.{list_all-append}
use Rattle.lk_names.specs.declared.names.Waiter.{Waiter}
use Rattle.lk_names.specs.declared.names.LockName.{LockName}
use Rattle.lk_names.specs.declared.events.Event.{Event}
use Rattle.lk_names.specs.declared.events.How.{How}
use Rattle.lk_names.specs.declared.events.How.TheVariants as how
use Rattle.lk_names.specs.declared.events.RwHow.{RwHow}
use Rattle.lk_names.specs.declared.events.RwHow.TheVariants as rw_how
use Rattle.lk_names.specs.declared.events.What.{What}
use Rattle.lk_names.specs.declared.events.What.TheVariants as what
use Rattle.lk_text.specs.Feeds.{HasNoFeed}
use Rattle.lk_text.proofs.NumberLemmas.{and_split}
use Rattle.lk_forms.specs.Texts.{how_text, rw_text, wait_mark, lock_text, waiter_text, owing_text, moved_text, what_text, event_text}
use Rattle.lk_forms.proofs.TextParts.{moved_more}
use Rattle.lk_forms.proofs.Decimals.{decimal_short}
use Rattle.lk_audit_forms.specs.Exact.{IsShortLock, IsShortWaiter, IsTellable, IsTold}
use Rattle.lk_audit_forms.proofs.Marks.{lacks, decimal_lacks}

-- no line feed, and no more bytes than that
pub record IsPlain (n : ℕ) (bytes : List ℕ) : Type 0 where
  pub lack : lacks 10 bytes ≡ true
  pub few : length bytes ≤ n

pub both : {m n : ℕ} {a b : List ℕ} → IsPlain m a → IsPlain n b → IsPlain (m + n) (a ++ b)
both {m} {n} {a} {b} p q =
    record {
      lack = list_all-append _ a b ∙ rw (p.lack, q.lack) refl;
      few = (let some = p.few in let more = q.few in omega (arith, some, more, length-append a b));
    }

pub widen : {m : ℕ} (n : ℕ) {a : List ℕ} → m ≤ n → IsPlain m a → IsPlain n a
widen n le p = record { lack = p.lack; few = (let some = p.few in omega (arith, some, le)) }

-- a word of the text
pub word : (bytes : List ℕ) → lacks 10 bytes ≡ true → nat_le (length bytes) 16 ≡ true → IsPlain 16 bytes
word bytes lack few = record { lack = lack; few = grind (arith, nat_tests, few) }

pub number : (n : ℕ) → n < 2 ^ 64 → IsPlain 20 (decimal n)
number n h = record { lack = decimal_lacks n 10 h (omega arith); few = decimal_short n h }

small : (n : ℕ) → n < 2 ^ 32 → IsPlain 20 (decimal n)
small n h = number n (omega (arith, h))

mark_plain : (b : Bool) → IsPlain 16 (wait_mark b)
mark_plain true = word (wait_mark true) refl refl
mark_plain false = word [] refl refl

lock_plain : (l : LockName) → IsShortLock l → IsPlain 36 (lock_text l)
lock_plain l h = both (small l.index h) (mark_plain l.wait)

waiter_plain : (w : Waiter) → IsShortWaiter w → IsPlain 56 (waiter_text w)
waiter_plain w (cpu, ctx) = both (small w.cpu cpu) (both (word (codes ".") refl refl) (small w.ctx ctx))

how_plain : (h : How) → IsPlain 16 (how_text h)
how_plain how.Fast = word (how_text how.Fast) refl refl
how_plain how.Try = word (how_text how.Try) refl refl
how_plain how.Pending = word (how_text how.Pending) refl refl
how_plain how.Virt = word (how_text how.Virt) refl refl
how_plain how.Retry = word (how_text how.Retry) refl refl
how_plain how.NoNode = word (how_text how.NoNode) refl refl
how_plain how.Steal = word (how_text how.Steal) refl refl
how_plain how.Head = word (how_text how.Head) refl refl
how_plain how.Sole = word (how_text how.Sole) refl refl

rw_plain : (h : RwHow) → IsPlain 16 (rw_text h)
rw_plain rw_how.Fast = word (rw_text rw_how.Fast) refl refl
rw_plain rw_how.Irq = word (rw_text rw_how.Irq) refl refl
rw_plain rw_how.Queued = word (rw_text rw_how.Queued) refl refl
rw_plain rw_how.Try = word (rw_text rw_how.Try) refl refl

owing_plain : (o : Option ℕ) → IfSome o (λ p. p < 2 ^ 32) → IsPlain 36 (owing_text o)
owing_plain None h = widen 36 (omega arith) (word [] refl refl)
owing_plain (Some p) h = both (word (codes " owing ") refl refl) (small p h)

moved_plain : (k : ℕ) → k < 2 ^ 32 → IsPlain 36 (moved_text k)
moved_plain zero h = widen 36 (omega arith) (word [] refl refl)
moved_plain (suc k) h = subst (IsPlain 36) (sym (moved_more k)) (both (word (codes " moved ") refl refl) (small (suc k) h))

space : IsPlain 16 (codes " ")
space = word (codes " ") refl refl

on_lock : (verb : List ℕ) (l : LockName) → IsPlain 16 verb → IsShortLock l → IsPlain 200 (verb ++ lock_text l)
on_lock verb l v h = widen 200 (omega arith) (both v (lock_plain l h))

what_plain : (w : What) → IsTellable w → IsPlain 200 (what_text w)
what_plain (what.Take l h) s =
    widen 200 (omega arith) (both (word (codes "take ") refl refl) (both (lock_plain l s) (both space (how_plain h))))
what_plain (what.Miss l) s = on_lock (codes "miss ") l (word (codes "miss ") refl refl) s
what_plain (what.Release l owing) s =
    widen 200 (omega arith) (both (word (codes "release ") refl refl) (both (lock_plain l s.0) (owing_plain owing s.1)))
what_plain (what.Kick p) s = widen 200 (omega arith) (both (word (codes "kick ") refl refl) (small p s))
what_plain (what.Arrive l) s = on_lock (codes "arrive ") l (word (codes "arrive ") refl refl) s
what_plain (what.Pass l to k) s =
    widen 200 (omega arith) (both (word (codes "pass ") refl refl) (both (lock_plain l s.0)
    (both space (both (waiter_plain to s.1) (moved_plain k s.2)))))
what_plain (what.Flush l) s = on_lock (codes "flush ") l (word (codes "flush ") refl refl) s
what_plain (what.Promote l) s = on_lock (codes "promote ") l (word (codes "promote ") refl refl) s
what_plain (what.Leave l) s = on_lock (codes "leave ") l (word (codes "leave ") refl refl) s
what_plain (what.Halt l) s = on_lock (codes "halt ") l (word (codes "halt ") refl refl) s
what_plain (what.Wake l) s = on_lock (codes "wake ") l (word (codes "wake ") refl refl) s
what_plain what.Int s = widen 200 (omega arith) (word (codes "int") refl refl)
what_plain what.Nudge s = widen 200 (omega arith) (word (codes "nudge") refl refl)
what_plain (what.RTake l h) s =
    widen 200 (omega arith) (both (word (codes "rtake ") refl refl) (both (lock_plain l s) (both space (rw_plain h))))
what_plain (what.RRelease l) s = on_lock (codes "rrelease ") l (word (codes "rrelease ") refl refl) s
what_plain (what.WTake l h) s =
    widen 200 (omega arith) (both (word (codes "wtake ") refl refl) (both (lock_plain l s.0) (both space (rw_plain h))))
what_plain (what.WRelease l) s = on_lock (codes "wrelease ") l (word (codes "wrelease ") refl refl) s

apart : (b : ℕ) → not (b == 10) ≡ true → b ≡ 10 → ⊥
apart b h same = (let yes = eq-eqb b 10 same in cc)

-- the line of an event, without its line feed
abbrev pub event_line : ℕ → Event → List ℕ
event_line act e = decimal act ++ (codes " " ++ (waiter_text e.by ++ (codes " " ++ what_text e.what)))

pub event_line_is : (act : ℕ) (e : Event) → event_line act e ++ codes "\n" ≡ event_text act e
event_line_is act e =
    append_assoc (decimal act) (32 ∷ (waiter_text e.by ++ 32 ∷ what_text e.what)) (codes "\n")
    ∙ ap (λ l. decimal act ++ 32 ∷ l) (append_assoc (waiter_text e.by) (32 ∷ what_text e.what) (codes "\n"))

pub event_plain : (act : ℕ) (e : Event) → IsTold act e → IsPlain 4000 (event_line act e)
event_plain act e told =
    widen 4000 (omega arith) (both (number act told.0) (both space (both (waiter_plain e.by told.1) (both space (what_plain e.what told.2)))))

pub no_feed : (bytes : List ℕ) → lacks 10 bytes ≡ true → HasNoFeed bytes
no_feed [] h = tt
no_feed (b ∷ bytes) h =
    let each = and_split (not (b == 10)) (lacks 10 bytes) h in
    (λ same. apart b each.0 same, no_feed bytes each.1)

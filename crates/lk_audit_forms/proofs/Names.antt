-- Waiters, locks, and how a lock was taken, are read exactly as they are printed.
use Rattle.std.proofs.Common.{Bool, true, false, ◌≡◌, ◌++◌, ℕ, List, [], ◌∷◌, Option, None, Some, refl, sym, ap, ◌∙◌, subst, arith, decimal, codes, append-nil, if◌then◌else◌}
use Rattle.std.proofs.lemmas.Slice.Eq.{bytes_eq-Decides}
use Rattle.std.specs.Str.{bytes_eq}
use Rattle.lk_names.specs.declared.names.Waiter.{Waiter}
use Rattle.lk_names.specs.declared.names.LockName.{LockName}
use Rattle.lk_names.specs.declared.events.How.{How}
use Rattle.lk_names.specs.declared.events.How.TheVariants as how
use Rattle.lk_names.specs.declared.events.RwHow.{RwHow}
use Rattle.lk_names.specs.declared.events.RwHow.TheVariants as rw_how
use Rattle.lk_forms.specs.Texts.{how_text, rw_text, wait_mark, lock_text, waiter_text}
use Rattle.lk_audit_forms.specs.Parts.{parts, if_some, small_number}
use Rattle.lk_audit_forms.specs.EventLines.{how_named, writer_named, reader_named, waiter_of_parts, waiter_named, lock_of_parts, lock_named}
use Rattle.lk_audit_forms.specs.Exact.{IsShortLock, IsShortWaiter, IsWriters}
use Rattle.lk_audit_forms.proofs.Marks.{lacks, parts_all, parts_one, parts_back, decimal_lacks}
use Rattle.lk_audit_forms.proofs.Numbers.{small_printed, small_read}

-- what a value that is there leads to
pub some_then : {A B : Type 0} (P : Type 0) (o : Option A) (next : A → Option B) (b : B)
    → if_some o next ≡ Some b → ((a : A) → o ≡ Some a → next a ≡ Some b → P) → P
some_then P None next b is on = cc
some_then P (Some a) next b is on = on a refl is

pub some_same : {A : Type 0} (a b : A) → Some a ≡ Some b → a ≡ b
some_same a b is = cc

-- one of the words of a table, or a later one
pub one_of : {A : Type 0} (P : A → Type 0) (word text : List ℕ) (a : A) (rest : Option A) (b : A)
    → (word ≡ text → P a) → (rest ≡ Some b → P b)
    → (if bytes_eq word text then Some a else rest) ≡ Some b → P b
one_of P word text a rest b here later is = by_test (bytes_eq word text) refl is
  where
    by_test : (t : Bool) → bytes_eq word text ≡ t → (if t then Some a else rest) ≡ Some b → P b
    by_test false e h = later h
    by_test true e h = (let same : a ≡ b = cc in rw (← same) (here ((bytes_eq-Decides word text).0 e)))

pub how_read : (word : List ℕ) (h : How) → how_named word ≡ Some h → word ≡ how_text h
how_read word h is =
    one_of P word (codes "fast") how.Fast _ h (λ e. e)
    (one_of P word (codes "head") how.Head _ h (λ e. e)
    (one_of P word (codes "sole") how.Sole _ h (λ e. e)
    (one_of P word (codes "pending") how.Pending _ h (λ e. e)
    (one_of P word (codes "steal") how.Steal _ h (λ e. e)
    (one_of P word (codes "try") how.Try _ h (λ e. e)
    (one_of P word (codes "virt") how.Virt _ h (λ e. e)
    (one_of P word (codes "retry") how.Retry _ h (λ e. e)
    (one_of P word (codes "nonode") how.NoNode _ h (λ e. e) (λ none. cc))))))))) is
  where
    P : How → Type 0
    P k = word ≡ how_text k

pub how_printed : (h : How) → how_named (how_text h) ≡ Some h
how_printed how.Fast = refl
how_printed _ = refl

pub writer_read : (word : List ℕ) (h : RwHow) → writer_named word ≡ Some h → (word ≡ rw_text h) × IsWriters h
writer_read word h is =
    one_of P word (codes "fast") rw_how.Fast _ h (λ e. (e, tt))
    (one_of P word (codes "queued") rw_how.Queued _ h (λ e. (e, tt))
    (one_of P word (codes "try") rw_how.Try _ h (λ e. (e, tt)) (λ none. cc))) is
  where
    P : RwHow → Type 0
    P k = (word ≡ rw_text k) × IsWriters k

pub writer_printed : (h : RwHow) → IsWriters h → writer_named (rw_text h) ≡ Some h
writer_printed rw_how.Fast w = refl
writer_printed rw_how.Irq w = absurd w
writer_printed rw_how.Queued w = refl
writer_printed rw_how.Try w = refl

pub reader_read : (word : List ℕ) (h : RwHow) → reader_named word ≡ Some h → word ≡ rw_text h
reader_read word h is =
    one_of P word (codes "irq") rw_how.Irq _ h (λ e. e) (λ rest. (writer_read word h rest).0) is
  where
    P : RwHow → Type 0
    P k = word ≡ rw_text k

pub reader_printed : (h : RwHow) → reader_named (rw_text h) ≡ Some h
reader_printed rw_how.Fast = refl
reader_printed _ = refl

-- `cpu.ctx`

pub waiter_printed : (w : Waiter) → IsShortWaiter w → waiter_named (waiter_text w) ≡ Some w
waiter_printed w (cpu, ctx) =
    let text : waiter_text w ≡ decimal w.cpu ++ 46 ∷ (decimal w.ctx ++ []) =
    ap (λ l. decimal w.cpu ++ 46 ∷ l) (sym (append-nil (decimal w.ctx))) in
    let first = decimal_lacks w.cpu 46 (omega (arith, cpu)) (omega arith) in
    let second = decimal_lacks w.ctx 46 (omega (arith, ctx)) (omega arith) in
    let cut = parts_all 46 (decimal w.cpu) (decimal w.ctx ∷ []) first (rw second refl) in
    ap (λ l. waiter_of_parts (parts 46 l)) text ∙ ap waiter_of_parts cut
    ∙ rw (small_printed w.cpu cpu, small_printed w.ctx ctx) refl

IsRead : List ℕ → Waiter → Type 0
IsRead word w = (word ≡ waiter_text w) × IsShortWaiter w

waiter_made : (word a b : List ℕ) (p c : ℕ) → word ≡ a ++ 46 ∷ (b ++ []) → small_number a ≡ Some p
    → small_number b ≡ Some c → IsRead word (record { cpu = p; ctx = c })
unfolding IsRead
waiter_made word a b p c whole cpu ctx =
    let first = small_read a p cpu in
    let second = small_read b c ctx in (
      whole ∙ ap (λ l. l ++ 46 ∷ (b ++ [])) first.0 ∙ ap (λ l. decimal p ++ 46 ∷ l) (append-nil b ∙ second.0),
      (first.1, second.1),
    )

waiter_by_parts : (word : List ℕ) (w : Waiter) (ps : List (List ℕ)) → parts 46 word ≡ ps
    → waiter_of_parts ps ≡ Some w → IsRead word w
waiter_by_parts word w [] cut h = cc
waiter_by_parts word w (a ∷ []) cut h = cc
waiter_by_parts word w (a ∷ b ∷ c ∷ ps) cut h = cc
waiter_by_parts word w (a ∷ b ∷ []) cut h =
    some_then (IsRead word w) (small_number a) _ w h (λ p cpu more.
    some_then (IsRead word w) (small_number b) _ w more (λ c ctx made.
    subst (IsRead word) (some_same (record { cpu = p; ctx = c }) w made)
    (waiter_made word a b p c (parts_back 46 word a (b ∷ []) cut) cpu ctx)))

pub waiter_read : (word : List ℕ) (w : Waiter) → waiter_named word ≡ Some w
    → (word ≡ waiter_text w) × IsShortWaiter w
unfolding IsRead
waiter_read word w is = waiter_by_parts word w (parts 46 word) refl is

-- `i` or `iw`

pub lock_printed : (l : LockName) → IsShortLock l → lock_named (lock_text l) ≡ Some l
lock_printed l short = by_mark l.wait refl
  where
    plain : lacks 119 (decimal l.index) ≡ true
    plain = decimal_lacks l.index 119 (omega (arith, short)) (omega arith)

    by_mark : (b : Bool) → l.wait ≡ b → lock_named (decimal l.index ++ wait_mark b) ≡ Some (record { index = l.index; wait = b })
    by_mark false is =
        ap lock_named (append-nil (decimal l.index)) ∙ ap lock_of_parts (parts_one 119 (decimal l.index) plain)
        ∙ rw (small_printed l.index short) refl
    by_mark true is =
        ap lock_of_parts (parts_all 119 (decimal l.index) ([] ∷ []) plain refl)
        ∙ rw (small_printed l.index short) refl

IsLockRead : List ℕ → LockName → Type 0
IsLockRead word l = (word ≡ lock_text l) × IsShortLock l

lock_made : (word a : List ℕ) (b : Bool) (i : ℕ) → word ≡ a ++ wait_mark b → small_number a ≡ Some i
    → IsLockRead word (record { index = i; wait = b })
unfolding IsLockRead
lock_made word a b i whole index =
    let number = small_read a i index in (whole ∙ ap (λ t. t ++ wait_mark b) number.0, number.1)

lock_by_parts : (word : List ℕ) (l : LockName) (ps : List (List ℕ)) → parts 119 word ≡ ps
    → lock_of_parts ps ≡ Some l → IsLockRead word l
lock_by_parts word l [] cut h = cc
lock_by_parts word l (a ∷ []) cut h =
    some_then (IsLockRead word l) (small_number a) _ l h (λ i index made.
    subst (IsLockRead word) (some_same (record { index = i; wait = false }) l made)
    (lock_made word a false i (parts_back 119 word a [] cut) index))
lock_by_parts word l (a ∷ [] ∷ []) cut h =
    some_then (IsLockRead word l) (small_number a) _ l h (λ i index made.
    subst (IsLockRead word) (some_same (record { index = i; wait = true }) l made)
    (lock_made word a true i (parts_back 119 word a ([] ∷ []) cut) index))
lock_by_parts word l (a ∷ (b ∷ c) ∷ []) cut h = cc
lock_by_parts word l (a ∷ [] ∷ d ∷ ps) cut h = cc
lock_by_parts word l (a ∷ (b ∷ c) ∷ d ∷ ps) cut h = cc

pub lock_read : (word : List ℕ) (l : LockName) → lock_named word ≡ Some l → (word ≡ lock_text l) × IsShortLock l
unfolding IsLockRead
lock_read word l is = lock_by_parts word l (parts 119 word) refl is

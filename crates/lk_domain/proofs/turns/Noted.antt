-- What a processor notes of its calls, after a step of one of them.
use Rattle.std.proofs.Common.{◌≡◌, ◌≢◌, inl, inr, ℕ, ◌+◌, ◌-◌, ◌<◌, ◌≤◌, List, [], ◌∷◌, length}
use Rattle.std.proofs.Common.{get_or, set, Bool, true, false, eqb, eq-eqb, ne_eqb, refl, sym, ap}
use Rattle.std.proofs.Common.{◌∙◌, subst, arith, ◌||◌, length-set, get_or-set_other}
use Rattle.std.proofs.Common.{get_or-set_same, not, if◌then◌else◌, ◌&&◌, w32, Fits}
use Rattle.lk_domain.proofs.Names.{cases_eq, if-false, if-true, is_slow, Calls, Running, holds_in}
use Rattle.lk_domain.proofs.Names.{slow_in, slows, waits_in, IsNoted, Marks, Steps, far_with}
use Rattle.lk_domain.proofs.Names.{near_with, Notes}
use mir.Val.{bool_byte}
use Rattle.lk_names.specs.ListOf.{ListOf}
use Rattle.lk_domain.proofs.Turned.{behind_long, behind_slows, behind_waits, behind_slow}
use Rattle.lk_domain.proofs.turns.Marks.{mark_set, mark_same}
use Rattle.lk_domain.specs.Marked.{lock_in, path_in, AreOrdered, Behind, nobody, one, upto}
use Rattle.lk_domain.specs.Marked.{with_mark}

byte : (b : Bool) → bool_byte b ≡ (if b then 1 else 0)
byte true = refl
byte false = refl

or_false : (b : Bool) → (b || false) ≡ b
or_false true = refl
or_false false = refl

or_true : (b : Bool) → (b || true) ≡ true
or_true true = refl
or_true false = refl

-- the newest of these calls, and those below it

top_lock : (r : Running) (rs : List Running) → lock_in (r ∷ rs) (length rs) ≡ r.frame.lock.index
top_lock r rs = if-true (eqb (length rs) (length rs)) r.frame.lock.index (lock_in rs (length rs)) (eq-eqb (length rs) (length rs) refl)

low_lock : (r : Running) (rs : List Running) (d : ℕ) → d ≢ length rs → lock_in (r ∷ rs) d ≡ lock_in rs d
low_lock r rs d ne = if-false (eqb d (length rs)) r.frame.lock.index (lock_in rs d) (ne_eqb d (length rs) ne)

top_path : (r : Running) (rs : List Running) → path_in (r ∷ rs) (length rs) ≡ is_slow r.frame.place
top_path r rs = if-true (eqb (length rs) (length rs)) (is_slow r.frame.place) (path_in rs (length rs)) (eq-eqb (length rs) (length rs) refl)

low_path : (r : Running) (rs : List Running) (d : ℕ) → d ≢ length rs → path_in (r ∷ rs) d ≡ path_in rs d
low_path r rs d ne = if-false (eqb d (length rs)) (is_slow r.frame.place) (path_in rs d) (ne_eqb d (length rs) ne)

module _ (ls : List ℕ) (ss : List Bool) (many : ℕ) (r : Running) (rs : List Running) where
  pub newest_lock : AreOrdered ls ss many (r ∷ rs) → get_or ls (length rs) 0 ≡ r.frame.lock.index
  newest_lock h = h.locks (length rs) (omega arith) ∙ top_lock r rs

  newest_path : AreOrdered ls ss many (r ∷ rs) → get_or ss (length rs) false ≡ is_slow r.frame.place
  newest_path h = h.paths (length rs) (omega arith) ∙ top_path r rs

  pub newest_among : AreOrdered ls ss many (r ∷ rs) → r.frame.lock.index < many
  newest_among h = let z = newest_lock h in let low = h.among (length rs) (omega arith) in omega (arith, z, low)

  pub ordered_rest : AreOrdered ls ss many (r ∷ rs) → AreOrdered ls ss many rs
  ordered_rest h =
      record {
        locks = λ i lt. h.locks i (omega (arith, lt)) ∙ low_lock r rs i (λ e. omega (arith, e, lt));
        paths = λ i lt. h.paths i (omega (arith, lt)) ∙ low_path r rs i (λ e. omega (arith, e, lt));
        among = λ i lt. h.among i (omega (arith, lt));
      }

  ordered_more : get_or ls (length rs) 0 ≡ r.frame.lock.index → get_or ss (length rs) false ≡ is_slow r.frame.place
      → r.frame.lock.index < many → AreOrdered ls ss many rs → AreOrdered ls ss many (r ∷ rs)
  ordered_more here path lt h =
      record {
        locks = λ i le. elim (cases_eq i (length rs)) [
          | inl e ↦ ap (λ (j : ℕ). get_or ls j 0) e ∙ (here ∙ (sym (top_lock r rs) ∙ ap (lock_in (r ∷ rs)) (sym e)))
          | inr ne ↦ h.locks i (omega (arith, le, ne)) ∙ sym (low_lock r rs i ne)
        ];
        paths = λ i le. elim (cases_eq i (length rs)) [
          | inl e ↦ ap (λ (j : ℕ). get_or ss j false) e ∙ (path ∙ (sym (top_path r rs) ∙ ap (path_in (r ∷ rs)) (sym e)))
          | inr ne ↦ h.paths i (omega (arith, le, ne)) ∙ sym (low_path r rs i ne)
        ];
        among = λ i le. elim (cases_eq i (length rs)) [
          | inl e ↦ let z : get_or ls i 0 ≡ r.frame.lock.index = ap (λ (j : ℕ). get_or ls j 0) e ∙ here in omega (arith, z, lt)
          | inr ne ↦ h.among i (omega (arith, le, ne))
        ];
      }

-- what the newest of so many calls says of a lock

pub upto_here : (ls : List ℕ) (ss : List Bool) (many : ℕ) (rs : List Running) (l n : ℕ) → AreOrdered ls ss many rs
    → length rs ≡ n → n ≢ 0 → get_or ls (n - 1) 0 ≡ l → n ≡ upto rs l
upto_here ls ss many [] l n h e ne at = absurd (ne (sym e))
upto_here ls ss many (r ∷ rs) l n h e ne at =
    let up : n ≡ 1 + length rs = omega (arith, e) in
    let down : n - 1 ≡ length rs = omega (arith, e) in
    let is : r.frame.lock.index ≡ l = sym (newest_lock ls ss many r rs h) ∙ (ap (λ (j : ℕ). get_or ls j 0) (sym down) ∙ at) in
    up ∙ sym (if-true (eqb r.frame.lock.index l) (1 + length rs) (upto rs l) (eq-eqb r.frame.lock.index l is))

pub upto_below : (ls : List ℕ) (ss : List Bool) (many : ℕ) (rs : List Running) (l n m : ℕ) → AreOrdered ls ss many rs
    → length rs ≡ n → n ≢ 0 → get_or ls (n - 1) 0 ≢ l
    → ((k : ℕ) (xs : List Running) → AreOrdered ls ss k xs → length xs ≡ n - 1 → m ≡ upto xs l) → m ≡ upto rs l
upto_below ls ss many [] l n m h e ne off rest = absurd (ne (sym e))
upto_below ls ss many (r ∷ rs) l n m h e ne off rest =
    let down : n - 1 ≡ length rs = omega (arith, e) in
    let isnt : r.frame.lock.index ≢ l =
    λ is. off (ap (λ (j : ℕ). get_or ls j 0) down ∙ (newest_lock ls ss many r rs h ∙ is)) in
    rest many rs (ordered_rest ls ss many r rs h) (sym down)
    ∙ sym (if-false (eqb r.frame.lock.index l) (1 + length rs) (upto rs l) (ne_eqb r.frame.lock.index l isnt))

some_calls : (rs : List Running) → eqb (1 + length rs) 0 ≡ false
some_calls rs = ne_eqb (1 + length rs) 0 (λ e. omega (arith, e))

pub upto_waits : (rs : List Running) (l : ℕ) → not (eqb (upto rs l) 0) ≡ waits_in rs l
upto_waits [] l = refl
upto_waits (r ∷ rs) l = by (eqb r.frame.lock.index l) (upto_waits rs l)
  where
    by : (b : Bool) → not (eqb (upto rs l) 0) ≡ waits_in rs l
        → not (eqb (if b then 1 + length rs else upto rs l) 0) ≡ (if b then true else waits_in rs l)
    by true h = ap not (some_calls rs)
    by false h = h

pub upto_slow : (ls : List ℕ) (ss : List Bool) (many : ℕ) (rs : List Running) (l : ℕ) → AreOrdered ls ss many rs
    → (not (eqb (upto rs l) 0) && get_or ss (upto rs l - 1) false) ≡ slow_in rs l
upto_slow ls ss many [] l h = refl
upto_slow ls ss many (r ∷ rs) l h =
    by (eqb r.frame.lock.index l) (upto_slow ls ss many rs l (ordered_rest ls ss many r rs h))
  where
    by : (b : Bool) → (not (eqb (upto rs l) 0) && get_or ss (upto rs l - 1) false) ≡ slow_in rs l
        → (not (eqb (if b then 1 + length rs else upto rs l) 0) && get_or ss ((if b then 1 + length rs else upto rs l) - 1) false)
        ≡ (if b then is_slow r.frame.place else slow_in rs l)
    by true rest =
        let top : 1 + length rs - 1 ≡ length rs = omega arith in
        ap (λ (z : Bool). not z && get_or ss (1 + length rs - 1) false) (some_calls rs)
        ∙ (ap (λ (j : ℕ). get_or ss j false) top ∙ newest_path ls ss many r rs h)
    by false rest = rest

-- so the path of the newest call for the lock is known

pub slow_there : (ls : List ℕ) (ss : List Bool) (many : ℕ) (rs : List Running) (l n : ℕ) → n ≡ upto rs l → n ≢ 0
    → AreOrdered ls ss many rs → get_or ss (n - 1) false ≡ slow_in rs l
slow_there ls ss many rs l n e ne h =
    sym (ap (λ (b : Bool). not b && get_or ss (n - 1) false) (ne_eqb n 0 ne))
    ∙ (ap (λ (m : ℕ). not (eqb m 0) && get_or ss (m - 1) false) e ∙ upto_slow ls ss many rs l h)

pub slow_none : (ls : List ℕ) (ss : List Bool) (many : ℕ) (rs : List Running) (l n : ℕ) → n ≡ upto rs l → n ≡ 0
    → AreOrdered ls ss many rs → not (eqb n 0) ≡ slow_in rs l
slow_none ls ss many rs l n e z h =
    ap not (eq-eqb n 0 z)
    ∙ (sym (ap (λ (b : Bool). not b && get_or ss (n - 1) false) (eq-eqb n 0 z))
    ∙ (ap (λ (m : ℕ). not (eqb m 0) && get_or ss (m - 1) false) e ∙ upto_slow ls ss many rs l h))

-- the calls below a place that is written
ordered_below : (ls : List ℕ) (ss : List Bool) (many d l : ℕ) (b : Bool) (rs : List Running) → length rs ≤ d
    → AreOrdered ls ss many rs → AreOrdered (set ls d l) (set ss d b) many rs
ordered_below ls ss many d l b rs le h =
    record {
      locks = λ i lt. get_or-set_other ls d i l 0 (λ e. omega (arith, e, le, lt)) ∙ h.locks i lt;
      paths = λ i lt. get_or-set_other ss d i b false (λ e. omega (arith, e, le, lt)) ∙ h.paths i lt;
      among = λ i lt. let same : get_or (set ls d l) i 0 ≡ get_or ls i 0 = get_or-set_other ls d i l 0 (λ e. omega (arith, e, le, lt)) in
          let low = h.among i lt in omega (arith, same, low);
    }

-- the others of calls, and the calls of which they are the others

module _ (ls : List ℕ) (ss : List Bool) (many l : ℕ) (rest : List Running) where
  others_ordered : (xs : List Running) (b s : Bool) → Behind l rest xs b s → AreOrdered ls ss many xs → AreOrdered ls ss many rest
  others_ordered xs b s nobody h = h
  others_ordered xs b s (one r e) h = ordered_rest ls ss many r rest h

  all_ordered : (xs : List Running) (b s : Bool) → Behind l rest xs b s → get_or ls (length rest) 0 ≡ l
      → get_or ss (length rest) false ≡ s → l < many → AreOrdered ls ss many rest → AreOrdered ls ss many xs
  all_ordered xs b s nobody here path lt h = h
  all_ordered xs b s (one r e) here path lt h =
      ordered_more ls ss many r rest (here ∙ sym e) path (let z : r.frame.lock.index ≡ l = e in omega (arith, z, lt)) h

pub newest_low : (n : Notes) (many : ℕ) (c : Calls) (r : Running) (rs : List Running) → IsNoted n many c
    → c.frames ≡ r ∷ rs → r.frame.lock.index < many
newest_low n many c r rs h is =
    newest_among n.order n.slow many r rs (subst (AreOrdered n.order n.slow many) is h.ordered)

module _ (n : Notes) (many : ℕ) (c d : Calls) (l : ℕ) (waits slow taken : Bool) (was : IsNoted n many c)
    (s : Steps c d l waits slow taken) where
  waited_is : waits_in c.frames l ≡ s.waited
  waited_is = behind_waits l s.others c.frames s.waited s.slowly s.none s.before

  slowly_is : slow_in c.frames l ≡ s.slowly
  slowly_is = behind_slow l s.others c.frames s.waited s.slowly s.none s.before

  module _ (lt : l < many) where
    -- how many calls there are beside the one for the lock
    pub others_are : (o w : ℕ) (a : Bool) → a ≡ waits_in c.frames l → w ≡ bool_byte a → o ≡ n.depth - w
        → o ≡ length s.others
    others_are o w a told at is =
        let long = behind_long l s.others c.frames s.waited s.slowly s.before in
        let deep = was.deep in
        let bit : w ≡ (if s.waited then 1 else 0) = at ∙ (byte a ∙ ap (λ b. if b then 1 else 0) (told ∙ waited_is)) in
        omega arith

    pub others_low : length s.others < 6
    others_low = s.low

    pub depth_ok : (w : ℕ) (a : Bool) → a ≡ waits_in c.frames l → w ≡ bool_byte a → w ≤ n.depth
    depth_ok w a told at =
        let long = behind_long l s.others c.frames s.waited s.slowly s.before in
        let deep = was.deep in
        let bit : w ≡ (if s.waited then 1 else 0) = at ∙ (byte a ∙ ap (λ b. if b then 1 else 0) (told ∙ waited_is)) in
        omega arith

    slow_bit : (w : ℕ) (a : Bool) → a ≡ slow_in c.frames l → w ≡ bool_byte a → w ≡ (if s.slowly then 1 else 0)
    slow_bit w a told at = at ∙ (byte a ∙ ap (λ b. if b then 1 else 0) (told ∙ slowly_is))

    pub queued_ok : (w : ℕ) (a : Bool) → a ≡ slow_in c.frames l → w ≡ bool_byte a → w ≤ n.queued
    queued_ok w a told at =
        let many = behind_slows l s.others c.frames s.waited s.slowly s.before in
        let deep = was.counted in
        let bit = slow_bit w a told at in
        omega arith

    pub queued_fits : (w z : ℕ) (a : Bool) → a ≡ slow_in c.frames l → w ≡ bool_byte a → z ≡ bool_byte slow
        → Fits w32 (n.queued - w + z)
    queued_fits w z a told at is =
        let many = behind_slows l s.others c.frames s.waited s.slowly s.before in
        let deep = was.counted in
        let bit = slow_bit w a told at in
        let low = s.low in
        let few = slows_low s.others in
        let one_at_most = bit_low slow in
        let bit_slow : z ≡ (if slow then 1 else 0) = is ∙ byte slow in
        omega arith
      where
        bit_low : (b : Bool) → (if b then 1 else 0) ≤ 1
        bit_low true = omega arith
        bit_low false = omega arith

        slows_low : (rs : List Running) → slows rs ≤ length rs
        slows_low [] = omega arith
        slows_low (r ∷ rs) = let x = bit_low (is_slow r.frame.place) in let y = slows_low rs in omega arith

    -- the marks after it, where it took the lock and where not

    pub marked_taken : taken ≡ true → Marks (near_with n.near l true) (far_with n.far.items l true) many (holds_in d.holds)
    marked_taken t =
        mark_set n.near n.far.items many (holds_in c.holds) (holds_in d.holds) l true lt was.marked
        (s.held ∙ (ap (λ b. holds_in c.holds l || b) t ∙ or_true (holds_in c.holds l))) s.holds

    pub marked_kept : taken ≡ false → Marks n.near n.far.items many (holds_in d.holds)
    marked_kept t =
        mark_same n.near n.far.items many (holds_in c.holds) (holds_in d.holds) was.marked
        (λ x. elim (cases_eq x l) [
          | inl e ↦ ap (holds_in d.holds) e
              ∙ (s.held ∙ (ap (λ b. holds_in c.holds l || b) t ∙ (or_false (holds_in c.holds l) ∙ ap (holds_in c.holds) (sym e))))
          | inr ne ↦ s.holds x ne
        ])

    pub noted : (o w x y z : ℕ) (a b : Bool) (ns : List Bool) (fs : ListOf Bool) → Marks ns fs.items many (holds_in d.holds)
        → a ≡ waits_in c.frames l
        → b ≡ slow_in c.frames l → w ≡ bool_byte a → o ≡ n.depth - w → x ≡ bool_byte waits → y ≡ bool_byte b → z ≡ bool_byte slow
        → IsNoted (record n {
          depth = o + x;
          queued = n.queued - y + z;
          order = set n.order o l;
          slow = set n.slow o slow;
          near = ns;
          far = fs;
        }) many d
    noted o w x y z a b ns fs marks told slowly at is now then_slow now_slow =
        let others = others_are o w a told at is in
        let low = s.low in
        let bit : x ≡ (if waits then 1 else 0) = now ∙ byte waits in
        let long = behind_long l s.others d.frames waits slow s.after in
        let bit_slow : z ≡ (if slow then 1 else 0) = now_slow ∙ byte slow in
        let more = behind_slows l s.others d.frames waits slow s.after in
        let before = behind_slows l s.others c.frames s.waited s.slowly s.before in
        let counted = was.counted in
        let bit_before = slow_bit y b slowly then_slow in
        let one_at_most : (if waits then 1 else 0) ≤ 1 = at_most waits in
        record {
          deep = omega arith;
          few = omega arith;
          counted = omega arith;
          orders = length-set n.order o l ∙ was.orders;
          paths = length-set n.slow o slow ∙ was.paths;
          ordered = all_ordered (set n.order o l) (set n.slow o slow) many l s.others d.frames waits slow s.after
              (ap (λ (i : ℕ). get_or (set n.order o l) i 0) (sym others)
              ∙ get_or-set_same n.order o l 0 (let z = was.orders in omega arith))
              (ap (λ (i : ℕ). get_or (set n.slow o slow) i false) (sym others)
              ∙ get_or-set_same n.slow o slow false (let z = was.paths in omega arith)) lt
              (ordered_below n.order n.slow many o l slow s.others (omega arith)
              (others_ordered n.order n.slow many l s.others c.frames s.waited s.slowly s.before was.ordered));
          all = was.all;
          marked = marks;
        }
      where
        at_most : (b : Bool) → (if b then 1 else 0) ≤ 1
        at_most true = omega arith
        at_most false = omega arith

-- nothing is to be noted where a call goes on as it waited
module _ (n : Notes) (many : ℕ) (c d : Calls) (l : ℕ) (slow : Bool) (was : IsNoted n many c)
    (s : Steps c d l true slow false) (on : waits_in c.frames l ≡ true)
    (same : slow_in c.frames l ≡ slow) where
  waited_on : s.waited ≡ true
  waited_on = sym (waited_is n many c d l true slow false was s) ∙ on

  slowly_on : s.slowly ≡ slow
  slowly_on = sym (slowly_is n many c d l true slow false was s) ∙ same

  holds_all : (x : ℕ) → holds_in d.holds x ≡ holds_in c.holds x
  holds_all x =
      elim (cases_eq x l) [
        | inl e ↦ ap (holds_in d.holds) e ∙ (s.held ∙ (or_false (holds_in c.holds l) ∙ ap (holds_in c.holds) (sym e)))
        | inr ne ↦ s.holds x ne
      ]

  -- the newest call, as it was noted
  top_is : (xs : List Running) (b z : Bool) → Behind l s.others xs b z → b ≡ true → AreOrdered n.order n.slow many xs
      → (get_or n.order (length s.others) 0 ≡ l) × (get_or n.slow (length s.others) false ≡ z) × (l < many)
  top_is xs b z nobody e h = cc e
  top_is xs b z (one r at) e h = (
    newest_lock n.order n.slow many r s.others h ∙ at,
    newest_path n.order n.slow many r s.others h,
    (let y : r.frame.lock.index ≡ l = at in let low = newest_among n.order n.slow many r s.others h in omega (arith, y, low)),
  )

  pub stays : IsNoted n many d
  stays =
      let long = behind_long l s.others d.frames true slow s.after in
      let more = behind_slows l s.others d.frames true slow s.after in
      let long_before = behind_long l s.others c.frames s.waited s.slowly s.before in
      let more_before = behind_slows l s.others c.frames s.waited s.slowly s.before in
      let bit : ◌≡◌ {A = ℕ} (if s.waited then 1 else 0) 1 = ap (λ b. if b then 1 else 0) waited_on in
      let bit_slow : ◌≡◌ {A = ℕ} (if s.slowly then 1 else 0) (if slow then 1 else 0) = ap (λ b. if b then 1 else 0) slowly_on in
      let deep = was.deep in
      let counted = was.counted in
      let few = was.few in
      let top = top_is c.frames s.waited s.slowly s.before waited_on was.ordered in
      record {
        deep = omega arith;
        few = omega arith;
        counted = omega arith;
        orders = was.orders;
        paths = was.paths;
        ordered = all_ordered n.order n.slow many l s.others d.frames true slow s.after top.0 (top.1 ∙ slowly_on) top.2
            (others_ordered n.order n.slow many l s.others c.frames s.waited s.slowly s.before was.ordered);
        all = was.all;
        marked = mark_same n.near n.far.items many (holds_in c.holds) (holds_in d.holds) was.marked holds_all;
      }

-- so a call that waited and waits, in the slow path or not as before, has nothing to note
pub goes_on : (n : Notes) (many : ℕ) (c d : Calls) (l : ℕ) (waits slow taken : Bool) → IsNoted n many c
    → Steps c d l waits slow taken → waits ≡ true → waits_in c.frames l ≡ true
    → slow_in c.frames l ≡ slow → taken ≡ false → IsNoted n many d
goes_on n many c d l true slow false was s _ on same _ = stays n many c d l slow was s on same
goes_on n many c d l true slow true was s _ on same e = cc e
goes_on n many c d l false slow taken was s e on same _ = cc e

-- the calls are the same, and other locks are held
pub same_calls : (n : Notes) (many : ℕ) (c d : Calls) (ns fs : List Bool) → d.frames ≡ c.frames
    → Marks ns fs many (holds_in d.holds) → IsNoted n many c
    → IsNoted (record n { near = ns; far = record n.far { items = fs } }) many d
same_calls n many c d ns fs frames held h =
    record {
      deep = h.deep ∙ ap (λ (xs : List Running). length xs) (sym frames);
      few = subst (λ (xs : List Running). length xs ≤ 6) (sym frames) h.few;
      counted = h.counted ∙ ap slows (sym frames);
      orders = h.orders;
      paths = h.paths;
      ordered = subst (AreOrdered n.order n.slow many) (sym frames) h.ordered;
      all = h.all;
      marked = held;
    }

-- a lock is freed
pub freed_noted : (n : Notes) (many : ℕ) (c d : Calls) (l : ℕ) → IsNoted n many c → l < many → d.frames ≡ c.frames
    → holds_in d.holds l ≡ false → ((x : ℕ) → x ≢ l → holds_in d.holds x ≡ holds_in c.holds x)
    → IsNoted (with_mark n l false) many d
freed_noted n many c d l was lt frames none away =
    same_calls n many c d (near_with n.near l false) (far_with n.far.items l false) frames
    (mark_set n.near n.far.items many (holds_in c.holds) (holds_in d.holds) l false lt was.marked none away) was

-- the calls are the same where none for the lock waited and none waits
same_frames : (l : ℕ) (rest xs : List Running) (b s : Bool) → Behind l rest xs b s → b ≡ false → xs ≡ rest
same_frames l rest xs b s nobody e = refl
same_frames l rest xs b s (one r at) e = cc e

pub left : (a b : Bool) → (a || b) ≡ false → a ≡ false
left true b e = e
left false b e = refl

pub right : (a b : Bool) → (a || b) ≡ false → b ≡ false
right true b e = cc e
right false b e = e

-- only the hold is to be noted then
module _ (n : Notes) (many : ℕ) (c d : Calls) (l : ℕ) (waits slow taken : Bool) (was : IsNoted n many c)
    (s : Steps c d l waits slow taken) (lt : l < many) (ends : waits ≡ false)
    (quiet : waits_in c.frames l ≡ false) where
  still : d.frames ≡ c.frames
  still =
      same_frames l s.others d.frames waits slow s.after ends
      ∙ sym (same_frames l s.others c.frames s.waited s.slowly s.before
      (sym (waited_is n many c d l waits slow taken was s) ∙ quiet))

  pub taken_noted : taken ≡ true → IsNoted (with_mark n l true) many d
  taken_noted e =
      same_calls n many c d (near_with n.near l true) (far_with n.far.items l true) still
      (mark_set n.near n.far.items many (holds_in c.holds) (holds_in d.holds) l true lt was.marked
      (s.held ∙ (ap (λ b. holds_in c.holds l || b) e ∙ or_true (holds_in c.holds l))) s.holds) was

  pub untaken_noted : taken ≡ false → IsNoted n many d
  untaken_noted e =
      same_calls n many c d n.near n.far.items still
      (mark_same n.near n.far.items many (holds_in c.holds) (holds_in d.holds) was.marked
      (λ x. elim (cases_eq x l) [
        | inl at ↦ ap (holds_in d.holds) at
            ∙ (s.held ∙ (ap (λ b. holds_in c.holds l || b) e ∙ (or_false (holds_in c.holds l) ∙ ap (holds_in c.holds) (sym at))))
        | inr ne ↦ s.holds x ne
      ])) was

-- the first row of a new call that did not take the lock
pub first_waits : (c d : Calls) (l : ℕ) (taken : Bool) → taken ≡ false
    → Steps c d l (not taken) false taken → Steps c d l true false false
first_waits c d l false e s = s
first_waits c d l true e s = cc e

-- and of one that took it
pub first_ends : (taken : Bool) → taken ≡ true → not taken ≡ false
first_ends true e = refl
first_ends false e = cc e

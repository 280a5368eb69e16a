-- Where the rows of a head that chooses its successor lead, by what they meet.
use Rattle.std.proofs.Common.{◌≡◌, ℕ, IfSome, Option, Some, None, Bool, true, false, refl, sym, ap}
use Rattle.std.proofs.Common.{◌∙◌, subst, [], ◌∷◌, if◌then◌else◌, ◌&&◌, not}
use Rattle.lk_run.proofs.Names.{Fields, NodeName, Mode, is_node, first_by, more_by, target, Flag}
use Rattle.lk_run.proofs.Names.{Frame, Pc, C1, C2, C3, C4, C5, C7, C8, C9, Flagged, Linked, Met}
use Rattle.lk_run.proofs.Names.{Named, Number, Word, Outlook, Unchanged, sight_by, IsFlagNode}
use Rattle.lk_run.proofs.Names.{IsNode, Plan, IsFirstNode, IsMoreNode, Flushes, Fronts, Parts}
use Rattle.lk_run.proofs.Names.{Precedes, Promotes, Skips}
use Rattle.lk_rows.proofs.Searching.{search_first-by, search_on-by}
use Rattle.lk_rows.specs.{Moves.node_of, Row.{learns_all, T}}
use Rattle.lk_rows.specs.Searching.{first_effect, over_by, more_effect, met_by}
use Rattle.lk_rows.specs.{declared.parts.Pc.TheVariants.{C6, C10}, declared.parts.Why.Why}
use Rattle.lk_rows.specs.{declared.search.First.First, declared.search.More.More}
use Rattle.lk_rows.specs.rows.Cna.{Sight, may_stay, search_first, search_on, after_tail, is_held}
use Rattle.lk_rows.specs.rows.Cna.{is_last, flag_for}
use Rattle.lk_law.specs.{Leads.{Course, course_of}, Steps.led}
use Rattle.lk_domain.specs.Calls.{course, grip_of}
use Rattle.lk_run.proofs.Ways.{Leads, Ends}
use Rattle.lk_run.specs.Frames.{Appends, Ties, Returns, Promoting}
use Rattle.lk_rows.specs.declared.parts.Why.TheVariants as why
use Rattle.lk_rows.specs.declared.search.First.TheVariants as first
use Rattle.lk_rows.specs.declared.search.More.TheVariants as more

-- the course by what is seen behind the head
abbrev told_first : First → Course
told_first v = course_of {A = Option NodeName} (first_effect v)

-- who is named as the first of the secondary queue is that
over_named : (a b : Bool) (second : Option NodeName) (n m k : NodeName)
    → (if a then (if b then first.Chooses n else first.Skips n) else over_by second n) ≡ first.Flushes m k → second ≡ Some m
over_named true true second n m k e = absurd (cc e)
over_named true false second n m k e = absurd (cc e)
over_named false b None n m k e = absurd (cc e)
over_named false b (Some j) n m k e = (let q : j ≡ m = cc e in ap (λ z. Some z) q)

none_named : (a b : Bool) (second : Option NodeName) (n m : NodeName)
    → (if a then (if b then first.Chooses n else first.Skips n) else over_by second n) ≡ first.Promotes m → ⊥
none_named true true second n m e = cc e
none_named true false second n m e = cc e
none_named false b None n m e = cc e
none_named false b (Some j) n m e = cc e

pub promotes_named : (s : Sight) (second x : Option NodeName) (m : NodeName) → first_by s second x ≡ first.Promotes m
    → second ≡ Some m
promotes_named s None None m e = absurd (cc e)
promotes_named s (Some j) None m e = (let q : j ≡ m = cc e in ap (λ z. Some z) q)
promotes_named s None (Some n) m e = absurd (none_named (may_stay s) (s.local n) None n m e)
promotes_named s (Some j) (Some n) m e = absurd (none_named (may_stay s) (s.local n) (Some j) n m e)

flushes_named : (s : Sight) (second x : Option NodeName) (m k : NodeName) → first_by s second x ≡ first.Flushes m k
    → second ≡ Some m
flushes_named s None None m k e = absurd (cc e)
flushes_named s (Some j) None m k e = absurd (cc e)
flushes_named s None (Some n) m k e = over_named (may_stay s) (s.local n) None n m k e
flushes_named s (Some j) (Some n) m k e = over_named (may_stay s) (s.local n) (Some j) n m k e

-- the course by what is seen behind those that were passed over
abbrev told_more : Frame → More → Course
told_more f v = course_of {A = Option NodeName} (more_effect f v)

met_named : (b : Bool) (second : Option NodeName) (n m y : NodeName)
    → (if b then met_by second n else more.Skips n) ≡ more.Appends m y → second ≡ Some m
met_named true None n m y e = absurd (cc e)
met_named true (Some j) n m y e = (let q : j ≡ m = cc e in ap (λ z. Some z) q)
met_named false second n m y e = absurd (cc e)

met_flushes : (b : Bool) (second : Option NodeName) (n m : NodeName)
    → (if b then met_by second n else more.Skips n) ≡ more.Flushes m → ⊥
met_flushes true None n m e = cc e
met_flushes true (Some j) n m e = cc e
met_flushes false second n m e = cc e

appends_named : (s : Sight) (second x : Option NodeName) (m y : NodeName) → more_by s second x ≡ more.Appends m y → second ≡ Some m
appends_named s None None m y e = absurd (cc e)
appends_named s (Some j) None m y e = absurd (cc e)
appends_named s None (Some n) m y e = met_named (s.local n) None n m y e
appends_named s (Some j) (Some n) m y e = met_named (s.local n) (Some j) n m y e

more_flushes_named : (s : Sight) (second x : Option NodeName) (m : NodeName) → more_by s second x ≡ more.Flushes m → second ≡ Some m
more_flushes_named s None None m e = absurd (cc e)
more_flushes_named s (Some j) None m e = (let q : j ≡ m = cc e in ap (λ z. Some z) q)
more_flushes_named s None (Some n) m e = absurd (met_flushes (s.local n) None n m e)
more_flushes_named s (Some j) (Some n) m e = absurd (met_flushes (s.local n) (Some j) n m e)

first_is : (z : Sight) (f : Frame) (second x : Option NodeName) → f.second ≡ second → (v : First)
    → first_by z second x ≡ v → course_of (search_first z f.second x) ≡ told_first v
first_is z f second x is v e =
    ap (λ (o : Option NodeName). course_of (search_first z o x)) is
    ∙ (ap (course_of {A = Option NodeName}) (search_first-by z second x) ∙ ap told_first e)

more_is : (z : Sight) (f : Frame) (second x : Option NodeName) → f.second ≡ second → (v : More)
    → more_by z second x ≡ v → course_of (search_on z f x) ≡ told_more f v
more_is z f second x is v e =
    ap (course_of {A = Option NodeName}) (search_on-by z f second x is) ∙ ap (told_more f) e

-- where it goes by that
abbrev pub more_pc : More → Pc
more_pc (more.Skips n) = C2
more_pc (more.Appends m n) = C3
more_pc (more.Begins n) = C5
more_pc (more.Flushes m) = C3
more_pc more.Chooses = C7

more_place : (f : Frame) (v : More) → (led f (told_more f v).leads).place ≡ Some (more_pc v)
more_place f (more.Skips n) = refl
more_place f (more.Appends m n) = refl
more_place f (more.Begins n) = refl
more_place f (more.Flushes m) = refl
more_place f more.Chooses = refl

-- whatever it sees it goes on
pub more_goes : (mode : Mode) (p : ℕ) (z : Outlook) (f : Frame) (second x : Option NodeName) (i : Bool) → f.second ≡ second → (v : More)
    → more_by (sight_by z (Linked x i)) second x ≡ v → (led f (course mode p z C2 f (Linked x i)).leads).place ≡ Some (more_pc v)
more_goes mode p z f second x i is v e =
    ap (λ (y : Course). (led f y.leads).place) (more_is (sight_by z (Linked x i)) f second x is v e) ∙ more_place f v

-- who is passed over, or before whom the secondary queue returns, is named by the link
skips_if : (a b : Bool) (second : Option NodeName) (n k : NodeName)
    → (if a then (if b then first.Chooses n else first.Skips n) else over_by second n) ≡ first.Skips k → n ≡ k
skips_if true true second n k e = absurd (cc e)
skips_if true false second n k e = cc e
skips_if false b None n k e = absurd (cc e)
skips_if false b (Some j) n k e = absurd (cc e)

pub skips_met : (s : Sight) (second x : Option NodeName) (k : NodeName) → first_by s second x ≡ first.Skips k → x ≡ Some k
skips_met s None None k e = absurd (cc e)
skips_met s (Some j) None k e = absurd (cc e)
skips_met s None (Some n) k e = ap (λ z. Some z) (skips_if (may_stay s) (s.local n) None n k e)
skips_met s (Some j) (Some n) k e = ap (λ z. Some z) (skips_if (may_stay s) (s.local n) (Some j) n k e)

flushes_if : (a b : Bool) (second : Option NodeName) (n m k : NodeName)
    → (if a then (if b then first.Chooses n else first.Skips n) else over_by second n) ≡ first.Flushes m k → n ≡ k
flushes_if true true second n m k e = absurd (cc e)
flushes_if true false second n m k e = absurd (cc e)
flushes_if false b None n m k e = absurd (cc e)
flushes_if false b (Some j) n m k e = cc e

pub flushes_met : (s : Sight) (second x : Option NodeName) (m k : NodeName) → first_by s second x ≡ first.Flushes m k → x ≡ Some k
flushes_met s None None m k e = absurd (cc e)
flushes_met s (Some j) None m k e = absurd (cc e)
flushes_met s None (Some n) m k e = ap (λ z. Some z) (flushes_if (may_stay s) (s.local n) None n m k e)
flushes_met s (Some j) (Some n) m k e = ap (λ z. Some z) (flushes_if (may_stay s) (s.local n) (Some j) n m k e)

-- whether the head is the last of the main queue
last_by : (f : Frame) (y : Fields) (own : NodeName) → f.me ≡ Some own → (b : Bool)
    → (is_held y.locked && not y.pending && is_node y.tail own) ≡ b → is_last f y ≡ b
last_by f y own me b e = (λ i. is_held y.locked && not y.pending && is_node y.tail (node_of (me i))) ∙ e

-- where the last of the secondary queue was looked for
tail_is : (f : Frame) (t : NodeName) (w : Why) → f.why ≡ w
    → course_of {A = Option NodeName} (learns_all (after_tail f.why) (T (Some t) ∷ []))
    ≡ course_of {A = Option NodeName} (learns_all (after_tail w) (T (Some t) ∷ []))
tail_is f t w e = ap (λ (y : Why). course_of {A = Option NodeName} (learns_all (after_tail y) (T (Some t) ∷ []))) e

pub tail_place : (mode : Mode) (p : ℕ) (z : Outlook) (f : Frame) (t : NodeName) (w : Why) → f.why ≡ w
    → (led f (course mode p z C3 f (Named (Some t))).leads).place ≡ Some (after_tail w)
tail_place mode p z f t w e = ap (λ (y : Why). Some (after_tail y)) e

-- the mark counts where somebody is named alone

pub first_marks : (z : Outlook) (second x : Option NodeName) (i j : Bool) → ((n : NodeName) → x ≡ Some n → i ≡ j)
    → first_by (sight_by z (Linked x i)) second x ≡ first_by (sight_by z (Linked x j)) second x
first_marks z None None i j same = refl
first_marks z (Some m) None i j same = refl
first_marks z None (Some n) i j same = ap (λ (b : Bool). first_by (sight_by z (Linked (Some n) b)) None (Some n)) (same n refl)
first_marks z (Some m) (Some n) i j same = ap (λ (b : Bool). first_by (sight_by z (Linked (Some n) b)) (Some m) (Some n)) (same n refl)

pub more_marks : (z : Outlook) (second x : Option NodeName) (i j : Bool) → ((n : NodeName) → x ≡ Some n → i ≡ j)
    → more_by (sight_by z (Linked x i)) second x ≡ more_by (sight_by z (Linked x j)) second x
more_marks z None None i j same = refl
more_marks z (Some m) None i j same = refl
more_marks z None (Some n) i j same = ap (λ (b : Bool). more_by (sight_by z (Linked (Some n) b)) None (Some n)) (same n refl)
more_marks z (Some m) (Some n) i j same = ap (λ (b : Bool). more_by (sight_by z (Linked (Some n) b)) (Some m) (Some n)) (same n refl)

module _ (mode : Mode) (p : ℕ) {z : Outlook} (f : Frame) where
  -- a row whose course is known
  by_course : (c : Pc) (x : Met) (o : Course) (e : Pc) (Q : Frame → Type 0) → course mode p z c f x ≡ o
      → (led f o.leads).place ≡ Some e → grip_of (target c f) o ≡ Unchanged → (led f o.leads).lock ≡ f.lock
      → (led f o.leads).then ≡ f.then → Q (led f o.leads) → Leads mode p z c f x e Q
  by_course c x o e Q is place grip lock after has =
      record {
        place = ap (λ (y : Course). (led f y.leads).place) is ∙ place;
        grip = ap (λ (y : Course). grip_of (target c f) y) is ∙ grip;
        lock = ap (λ (y : Course). (led f y.leads).lock) is ∙ lock;
        after = ap (λ (y : Course). (led f y.leads).then) is ∙ after;
        has = subst (λ (y : Course). Q (led f y.leads)) (sym is) has;
      }

  -- C1
  module _ (own : NodeName) (second x : Option NodeName) {i : Bool} (has : Fronts own second f) where
    pub first_waits : first_by (sight_by z (Linked x i)) second x ≡ first.Waits → Leads mode p z C1 f (Linked x i) C1 (Fronts own second)
    first_waits e =
        by_course C1 (Linked x i) (told_first first.Waits) C1 (Fronts own second) (first_is (sight_by z (Linked x i)) f second x has.second first.Waits e) refl refl refl refl
        (record { me = has.me; second = has.second })

    pub first_promotes : (m : NodeName) → first_by (sight_by z (Linked x i)) second x ≡ first.Promotes m
        → Leads mode p z C1 f (Linked x i) C3 (Promotes own m)
    first_promotes m e =
        by_course C1 (Linked x i) (told_first (first.Promotes m)) C3 (Promotes own m) (first_is (sight_by z (Linked x i)) f second x has.second (first.Promotes m) e) refl refl refl refl
        (record { fronts = record { me = has.me; second = has.second ∙ promotes_named (sight_by z (Linked x i)) second x m e }; why_is = refl })

    pub first_chooses : (y : NodeName) → first_by (sight_by z (Linked x i)) second x ≡ first.Chooses y
        → Leads mode p z C1 f (Linked x i) C7 (Precedes own second y)
    first_chooses y e =
        by_course C1 (Linked x i) (told_first (first.Chooses y)) C7 (Precedes own second y) (first_is (sight_by z (Linked x i)) f second x has.second (first.Chooses y) e) refl refl refl refl
        (record { fronts = record { me = has.me; second = has.second }; next = refl })

    pub first_skips : (a : NodeName) → first_by (sight_by z (Linked x i)) second x ≡ first.Skips a
        → Leads mode p z C1 f (Linked x i) C2 (Skips own second a a)
    first_skips a e =
        by_course C1 (Linked x i) (told_first (first.Skips a)) C2 (Skips own second a a) (first_is (sight_by z (Linked x i)) f second x has.second (first.Skips a) e) refl refl refl refl
        (record { fronts = record { me = has.me; second = has.second }; first = refl; last = refl })

    pub first_flushes : (m a : NodeName) → first_by (sight_by z (Linked x i)) second x ≡ first.Flushes m a
        → Leads mode p z C1 f (Linked x i) C3 (Flushes own m a)
    first_flushes m a e =
        by_course C1 (Linked x i) (told_first (first.Flushes m a)) C3 (Flushes own m a) (first_is (sight_by z (Linked x i)) f second x has.second (first.Flushes m a) e) refl refl refl refl
        (record {
          fronts = record { me = has.me; second = has.second ∙ flushes_named (sight_by z (Linked x i)) second x m a e };
          a_is = refl;
          why_is = refl;
        })

  -- C2
  module _ (own : NodeName) (second x : Option NodeName) {i : Bool} (a b : NodeName) (has : Skips own second a b f) where
    pub more_skips : (n : NodeName) → more_by (sight_by z (Linked x i)) second x ≡ more.Skips n
        → Leads mode p z C2 f (Linked x i) C2 (Skips own second a n)
    more_skips n e =
        by_course C2 (Linked x i) (told_more f (more.Skips n)) C2 (Skips own second a n) (more_is (sight_by z (Linked x i)) f second x has.fronts.second (more.Skips n) e) refl refl refl refl
        (record { fronts = record { me = has.fronts.me; second = has.fronts.second }; first = has.first; last = refl })

    pub more_appends : (m y : NodeName) → more_by (sight_by z (Linked x i)) second x ≡ more.Appends m y
        → Leads mode p z C2 f (Linked x i) C3 (Appends own m a b y)
    more_appends m y e =
        by_course C2 (Linked x i) (told_more f (more.Appends m y)) C3 (Appends own m a b y) (more_is (sight_by z (Linked x i)) f second x has.fronts.second (more.Appends m y) e) refl refl refl refl
        (record {
          skips = record {
            fronts = record { me = has.fronts.me; second = has.fronts.second ∙ appends_named (sight_by z (Linked x i)) second x m y e };
            first = has.first;
            last = has.last;
          };
          next = refl;
          why_is = refl;
        })

    pub more_begins : (y : NodeName) → more_by (sight_by z (Linked x i)) second x ≡ more.Begins y
        → Leads mode p z C2 f (Linked x i) C5 (Parts own a b y)
    more_begins y e =
        by_course C2 (Linked x i) (told_more f (more.Begins y)) C5 (Parts own a b y) (more_is (sight_by z (Linked x i)) f second x has.fronts.second (more.Begins y) e) refl refl refl refl
        (record { fronts = record { me = has.fronts.me; second = has.first }; last = has.last; next = refl })

    pub more_flushes : (m : NodeName) → more_by (sight_by z (Linked x i)) second x ≡ more.Flushes m
        → Leads mode p z C2 f (Linked x i) C3 (Flushes own m a)
    more_flushes m e =
        by_course C2 (Linked x i) (told_more f (more.Flushes m)) C3 (Flushes own m a) (more_is (sight_by z (Linked x i)) f second x has.fronts.second (more.Flushes m) e) refl refl refl refl
        (record {
          fronts = record { me = has.fronts.me; second = has.fronts.second ∙ more_flushes_named (sight_by z (Linked x i)) second x m e };
          a_is = has.first;
          why_is = refl;
        })

    pub more_chooses : more_by (sight_by z (Linked x i)) second x ≡ more.Chooses → Leads mode p z C2 f (Linked x i) C7 (Precedes own second a)
    more_chooses e =
        by_course C2 (Linked x i) (told_more f more.Chooses) C7 (Precedes own second a) (more_is (sight_by z (Linked x i)) f second x has.fronts.second more.Chooses e) refl refl refl refl
        (record { fronts = record { me = has.fronts.me; second = has.fronts.second }; next = has.first })

  -- C3
  pub appends_tail : (own m a b y t : NodeName) → Appends own m a b y f
      → Leads mode p z C3 f (Named (Some t)) C4 (Ties own m a b y t)
  appends_tail own m a b y t has =
      by_course C3 (Named (Some t)) _ C4 (Ties own m a b y t) (tail_is f t why.Append has.why_is) refl refl refl refl
      (record {
        fronts = record { me = has.skips.fronts.me; second = has.skips.fronts.second };
        a_is = has.skips.first;
        b_is = has.skips.last;
        next = has.next;
        tail = refl;
      })

  pub flushes_tail : (own m a t : NodeName) → Flushes own m a f
      → Leads mode p z C3 f (Named (Some t)) C9 (Returns own m a t)
  flushes_tail own m a t has =
      by_course C3 (Named (Some t)) _ C9 (Returns own m a t) (tail_is f t why.Flush has.why_is) refl refl refl refl
      (record { fronts = record { me = has.fronts.me; second = has.fronts.second }; a_is = has.a_is; tail = refl })

  pub promotes_tail : (own m t : NodeName) → Promotes own m f
      → Leads mode p z C3 f (Named (Some t)) C10 (Promoting own m t)
  promotes_tail own m t has =
      by_course C3 (Named (Some t)) _ C10 (Promoting own m t) (tail_is f t why.Promotion has.why_is) refl refl refl refl
      (record { fronts = record { me = has.fronts.me; second = has.fronts.second }; tail = refl })

  -- C4
  pub ties : (own m a b y t : NodeName) (x : Option NodeName) {i : Bool} → Ties own m a b y t f
      → Leads mode p z C4 f (Linked x i) C5 (Parts own m b y)
  ties own m a b y t x has =
      record {
        place = refl;
        grip = refl;
        lock = refl;
        after = refl;
        has = record {
          fronts = record { me = has.fronts.me; second = has.fronts.second };
          last = has.b_is;
          next = has.next;
        };
      }

  -- C5
  pub cuts : (own m b y : NodeName) (x : Option NodeName) {i : Bool} → Parts own m b y f
      → Leads mode p z C5 f (Linked x i) C6 (Parts own m b y)
  cuts own m b y x has =
      record {
        place = refl;
        grip = refl;
        lock = refl;
        after = refl;
        has = record { fronts = record { me = has.fronts.me; second = has.fronts.second }; last = has.last; next = has.next };
      }

  -- C6
  pub sets_tail : (own m b y : NodeName) (x : Option NodeName) → Parts own m b y f
      → Leads mode p z C6 f (Named x) C7 (Precedes own (Some m) y)
  sets_tail own m b y x has =
      record {
        place = refl;
        grip = refl;
        lock = refl;
        after = refl;
        has = record { fronts = record { me = has.fronts.me; second = has.fronts.second }; next = has.next };
      }

  -- C7
  pub counts : (own : NodeName) (second : Option NodeName) (y : NodeName) (x : ℕ) → Precedes own second y f
      → Leads mode p z C7 f (Number x) C8 (Precedes own second y)
  counts own second y x has =
      record {
        place = refl;
        grip = refl;
        lock = refl;
        after = refl;
        has = record { fronts = record { me = has.fronts.me; second = has.fronts.second }; next = has.next };
      }

  -- C8
  pub hands_chosen : (x : Flag) → Ends mode p z C8 f (Flagged x)
  hands_chosen x = record { place = refl; grip = refl; own = refl; lock = refl; after = refl }

  -- C9
  pub returns : (own m a t : NodeName) (x : Option NodeName) {i : Bool} → Returns own m a t f
      → Leads mode p z C9 f (Linked x i) C7 (Precedes own None m)
  returns own m a t x has =
      record {
        place = refl;
        grip = refl;
        lock = refl;
        after = refl;
        has = record { fronts = record { me = has.fronts.me; second = refl }; next = has.fronts.second };
      }

  -- C10
  module _ (y : Fields) (own m t : NodeName) (has : Promoting own m t f) where
    pub promoted : (is_held y.locked && not y.pending && is_node y.tail own) ≡ true
        → Leads mode p z C10 f (Word y) C7 (Precedes own None m)
    promoted e =
        record {
          place = rw (last_by f y own has.fronts.me true e) refl;
          grip = rw (last_by f y own has.fronts.me true e) refl;
          lock = rw (last_by f y own has.fronts.me true e) refl;
          after = rw (last_by f y own has.fronts.me true e) refl;
          has = record {
            fronts = record { me = rw (last_by f y own has.fronts.me true e) has.fronts.me; second = rw (last_by f y own has.fronts.me true e) refl };
            next = rw (last_by f y own has.fronts.me true e) has.fronts.second;
          };
        }

    pub not_promoted : (is_held y.locked && not y.pending && is_node y.tail own) ≡ false
        → Leads mode p z C10 f (Word y) C1 (Fronts own (Some m))
    not_promoted e =
        record {
          place = rw (last_by f y own has.fronts.me false e) refl;
          grip = rw (last_by f y own has.fronts.me false e) refl;
          lock = rw (last_by f y own has.fronts.me false e) refl;
          after = rw (last_by f y own has.fronts.me false e) refl;
          has = record { me = rw (last_by f y own has.fronts.me false e) has.fronts.me; second = rw (last_by f y own has.fronts.me false e) has.fronts.second };
        }

-- the nodes that are named are those of the plan

pub first_node : (k : Plan) (s : Sight) (second x : Option NodeName) → IfSome second (IsNode k) → IfSome x (IsNode k)
    → IsFirstNode k (first_by s second x)
first_node k s None None h g = tt
first_node k s (Some m) None h g = h
first_node k s None (Some n) h g = by (may_stay s) (s.local n)
  where
    by : (a b : Bool) → IsFirstNode k (if a then (if b then first.Chooses n else first.Skips n) else over_by None n)
    by true true = g
    by true false = g
    by false b = g
first_node k s (Some m) (Some n) h g = by (may_stay s) (s.local n)
  where
    by : (a b : Bool) → IsFirstNode k (if a then (if b then first.Chooses n else first.Skips n) else over_by (Some m) n)
    by true true = g
    by true false = g
    by false b = (h, g)

pub more_node : (k : Plan) (s : Sight) (second x : Option NodeName) → IfSome second (IsNode k) → IfSome x (IsNode k)
    → IsMoreNode k (more_by s second x)
more_node k s None None h g = tt
more_node k s (Some m) None h g = h
more_node k s None (Some n) h g = by (s.local n)
  where
    by : (b : Bool) → IsMoreNode k (if b then met_by None n else more.Skips n)
    by true = g
    by false = g
more_node k s (Some m) (Some n) h g = by (s.local n)
  where
    by : (b : Bool) → IsMoreNode k (if b then met_by (Some m) n else more.Skips n)
    by true = (h, g)
    by false = g

pub flag_node : (k : Plan) (o : Option NodeName) → IfSome o (IsNode k) → IsFlagNode k (flag_for o)
flag_node k None h = tt
flag_node k (Some n) h = h

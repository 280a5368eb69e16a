-- What the steps ask that read a word of the ledger.
use Rattle.std.proofs.Common.{◌≡◌, ◌≢◌, inr, ⊎_elim, ℕ, ◌+◌, ◌-◌, ◌<◌, ◌≤◌, List, [], ◌∷◌, length}
use Rattle.std.proofs.Common.{set, get_or, Option, Some, None, refl, sym, ap, ◌∙◌, subst, arith}
use Rattle.std.proofs.Common.{length-set}
use Rattle.lk_domain.proofs.Names.{at_set, Allows, Me, State, Step, keeps, get_elem?, set-get_or}
use Rattle.lk_domain.proofs.Names.{none, some, Entry, if_cases, AtHome, IsOpen, Keeps, Knows, Slot}
use Rattle.lk_domain.proofs.Names.{balance, holds_first, undrawn, Ledger, Look, Out, no_ledger}
use Rattle.lk_domain.proofs.Names.{IsRunningPlan, accounts_of, locks_of, Stand, IsNumbered, view}
use Rattle.lk_domain.proofs.Names.{Who, balance_at, version_at, Plan, Entries, View}
use Rattle.atomic_table.proofs.Lists.{set_here}
use Rattle.atomic_table.specs.Table.{takes}
use Rattle.lk_names.specs.Jobs.{after_job, given, taken, is_short, has_room}
use Rattle.lk_names.specs.{Journal.{balances_after, Replays}, declared.ledger.Job.Job}
use Rattle.lk_names.specs.declared.ledger.Job.TheVariants.{Move, Add, Sum, Get}
use Rattle.lk_domain.proofs.journals.Alone.{IsPage, paged, some_out, out_is}
use Rattle.lk_domain.proofs.journals.Held.{any_once, sole_le}
use Rattle.lk_domain.proofs.journals.Purses.{alters, ended_more, look_ends, first_slot}
use Rattle.lk_domain.proofs.{rows.Kept.set_at, seats.Totals.{total-same, term_le}}
use Rattle.lk_domain.proofs.words.Written.{bare, behind}
use Rattle.lk_domain.specs.Keeps.{alone_first}
use Rattle.lk_domain.specs.Ledgers.{loaded, sighted, taken_out, look_loads, look_sees, listed_look}
use Rattle.lk_domain.specs.Ledgers.{manner_of, trail_of}
use Rattle.lk_domain.specs.Plays.{Loads, LoadedBy, Sees, OneState, TakenBy, TakesJournal}
use Rattle.lk_domain.proofs.journals.Alone as alone

-- the words of the ledger

pub version_page : (k : Plan) → IsPage k version_at
version_page k =
    record { low = omega arith; apart = λ x h e. let a = behind k x h in omega (arith, e, a) }

pub balance_page : (k : Plan) → IsRunningPlan k → (a : ℕ) → a < accounts_of k
    → IsPage k (balance_at k a)
balance_page k law a lt =
    record { low = omega arith; apart = λ x h e. (bare k law.accounts x h).balances a lt e }

-- a job keeps how many balances there are
after_long : (bs : List ℕ) (j : Job) → length (after_job bs j) ≡ length bs
after_long bs (Move from to amount) =
    if_cases (λ (ys : List ℕ). length ys ≡ length bs) (is_short bs from amount) bs
    (given (taken bs from amount) to amount) (λ _. refl)
    (λ _. length-set (taken bs from amount) to (get_or (taken bs from amount) to 0 + amount)
    ∙ length-set bs from (get_or bs from 0 - amount))
after_long bs (Add account amount) =
    if_cases (λ (ys : List ℕ). length ys ≡ length bs) (has_room bs amount) (given bs account amount) bs
    (λ _. length-set bs account (get_or bs account 0 + amount)) (λ _. refl)
after_long bs Sum = refl
after_long bs (Get account) = refl

pub entries_long : (bs : List ℕ) (es : List Entry) → length (balances_after bs es) ≡ length bs
entries_long bs [] = refl
entries_long bs (e ∷ es) = entries_long (after_job bs e.job) es ∙ after_long bs e.job

-- for a seat that holds lock 0
module _ (k : Plan) (s : State Slot View) (both : Stand k s) (id : ℕ) (v : View)
    (me : get_elem? s.views id ≡ some v) (n : IsNumbered v) (holds : holds_first v.calls) where
  abbrev kp : Keeps k s
  kp = both.keeps

  pub planned : v.who.plan ≡ k
  planned = both.runs.planned id v n.0 me n.1

  same_word : (i j : ℕ) → get_or (set s.words i (get_or s.words i 0)) j 0 ≡ get_or s.words j 0
  same_word i j = ap (λ (ws : List ℕ). get_or ws j 0) (set-get_or s.words i 0)

  -- a load after which the seat knows more
  learns : (i : ℕ) (w : View) → IsPage k i → w.who ≡ v.who → w.calls ≡ v.calls
      → w.ledger.share ≡ v.ledger.share → w.ledger.out ≡ v.ledger.out → Knows k kp.journal w
      → Stand k (record {
        words = set s.words i (get_or s.words i 0);
        homes = s.homes;
        views = set s.views id w;
      })
  learns i w page who calls share out knows =
      record {
        runs = paged k s both.runs id v me n w who calls i (get_or s.words i 0) page s.homes;
        keeps = alters k s kp id v w (set s.words i (get_or s.words i 0)) me share knows (same_word i 0)
            (same_word i version_at) (λ a lt. same_word i (balance_at k a)) out (ap (λ (x : Who). x.outs) who);
      }

  -- what the rule gives of a view is of one state of the journal
  pub state_of : (w : View) → w.who.plan ≡ k → Knows k kp.journal w → OneState w
  state_of w plan h =
      record {
        journal = kp.journal;
        replays = subst (λ (j : Plan). Replays j.balances.items kp.journal) (sym plan) kp.replays;
        looking = subst (λ (j : Plan). IsOpen j kp.journal w.calls w.ledger.look) (sym plan) h.looking;
        own = h.own;
        seen = h.seen;
      }

  quiet_here : (g : Ledger) → v.who.number ≡ None → g ≡ no_ledger
  quiet_here g e = let no : None ≡ Some n.0 = sym e ∙ n.1 in absurd (let z : ⊥ = cc in z)

  -- a balance is loaded

  look_loaded : (a x : ℕ) → (v.ledger.look ≢ None → x ≡ balance k kp.journal a)
      → IsOpen k kp.journal v.calls (look_loads v.ledger.look a x)
  look_loaded a x is = at_look v.ledger.look is (kp.knows id v me).looking
    where
      at_look : (o : Option Look) → (o ≢ None → x ≡ balance k kp.journal a)
          → IsOpen k kp.journal v.calls o → IsOpen k kp.journal v.calls (look_loads o a x)
      at_look None f h = tt
      at_look (Some y) f h = (h.0, record { version = h.1.version; loads = (f (λ e. cc), h.1.loads) })

  look_shut : (o : Option Look) (a x : ℕ) → o ≡ None → look_loads o a x ≡ None
  look_shut o a x e = ap (λ y. look_loads y a x) e

  pub load_knows : (a : ℕ) → a < accounts_of k
      → let x = get_or s.words (balance_at k a) 0 in
      Knows k kp.journal (view v.who v.calls (loaded v.ledger a x))
  load_knows a lt =
      let x = get_or s.words (balance_at k a) 0 in
      let kv = kp.knows id v me in
      record {
        holder = kv.holder;
        shut = λ ne. look_shut v.ledger.look a x (kv.shut ne);
        looking = look_loaded a x (λ ne. ⊎_elim
            (λ e. (alone.at_home k s both id v me holds e).words.balances a lt)
            (λ (t : (o : Out) × (v.ledger.out ≡ Some o)). absurd (ne (kv.shut (out_is t.0 v.ledger.out t.1)))) (some_out v.ledger.out));
        looked = kv.looked;
        seen = kv.seen;
        own = kv.own;
        quiet = λ e. quiet_here (loaded v.ledger a x) e;
        past = kv.past;
        values = kv.values;
      }

  pub load_out : (a : ℕ) → a < accounts_of k → (o : Out) → v.ledger.out ≡ Some o
      → get_or s.words (balance_at k a) 0 ≡ get_or o.words a 0
  load_out a lt o has =
      let h = alone.away k s both id v me holds o has in
      let is : Some h.out ≡ Some o = sym (alone.away_out k s both id v me holds h) ∙ has in
      let out : h.out ≡ o = cc in
      h.words a lt ∙ (λ i. get_or (out i).words a 0)

  pub load_stands : (a : ℕ) → a < accounts_of k
      → let x = get_or s.words (balance_at k a) 0 in
      Stand k (record {
        words = set s.words (balance_at k a) x;
        homes = s.homes;
        views = set s.views id (view v.who v.calls (loaded v.ledger a x));
      })
  load_stands a lt =
      let x = get_or s.words (balance_at k a) 0 in
      learns (balance_at k a) (view v.who v.calls (loaded v.ledger a x)) (balance_page k both.runs.lawful a lt) refl refl refl refl (load_knows a lt)

  -- the version is loaded

  -- the version word is the journal's length
  pub version_is : get_or s.words version_at 0 ≡ length kp.journal
  version_is = ⊎_elim (λ h. h.words.version) (λ h. h.version) kp.place

  look_sighted : (x : ℕ) → x ≡ length kp.journal
      → IsOpen k kp.journal v.calls (look_sees v.ledger.look x)
  look_sighted x is = at_look v.ledger.look (kp.knows id v me).looking
    where
      at_look : (o : Option Look) → IsOpen k kp.journal v.calls o → IsOpen k kp.journal v.calls (look_sees o x)
      at_look None h = tt
      at_look (Some y) h = (h.0, record { version = is; loads = h.1.loads })

  pub sight_knows : let x = get_or s.words version_at 0 in
      Knows k kp.journal (view v.who v.calls (sighted v.ledger x))
  sight_knows =
      let x = get_or s.words version_at 0 in
      let kv = kp.knows id v me in
      record {
        holder = kv.holder;
        shut = λ ne. ap (λ (o : Option Look). look_sees o x) (kv.shut ne);
        looking = look_sighted x version_is;
        looked = kv.looked;
        seen = (let z = version_is in omega arith);
        own = kv.own;
        quiet = λ e. quiet_here (sighted v.ledger x) e;
        past = kv.past;
        values = kv.values;
      }

  pub sight_stands : let x = get_or s.words version_at 0 in
      Stand k (record {
        words = set s.words version_at x;
        homes = s.homes;
        views = set s.views id (view v.who v.calls (sighted v.ledger x));
      })
  sight_stands =
      let x = get_or s.words version_at 0 in
      learns version_at (view v.who v.calls (sighted v.ledger x)) (version_page k) refl refl refl refl sight_knows

  -- the journal is taken out
  module _ (none_out : v.ledger.out ≡ None) (sole : alone_first v.calls) where
    pub h : AtHome k kp.journal s
    h = alone.at_home k s both id v me holds none_out

    abbrev js : List Entry
    js = h.journal.entries.items

    abbrev ws : List ℕ
    ws = balances_after k.balances.items js

    abbrev taker : View
    taker = view v.who v.calls (taken_out v.ledger js h.journal.entries.room ws)

    take_knows : Knows k kp.journal taker
    take_knows =
        let kv = kp.knows id v me in
        record {
          holder = λ _. sole;
          shut = λ _. refl;
          looking = tt;
          looked = ended_more k kp.journal v.ledger.looks (listed_look v.ledger.look) kv.looked (look_ends k kp.journal v.calls v.ledger.look kv.looking);
          seen = kv.seen;
          own = kv.own;
          quiet = λ e. quiet_here taker.ledger e;
          past = kv.past;
          values = kv.values;
        }

    pub take_stands : Stand k (record {
      words = set s.words version_at (get_or s.words version_at 0);
      homes = set s.homes 0 none;
      views = set s.views id taker;
    })
    take_stands =
        let inside : 0 < length s.homes = (let z = kp.slots in omega arith) in
        record {
          runs = paged k s both.runs id v me n taker refl refl version_at (get_or s.words version_at 0) (version_page k) (set s.homes 0 none);
          keeps = record {
            journal = kp.journal;
            replays = kp.replays;
            slots = length-set s.homes 0 none ∙ kp.slots;
            shares = omega (arith, kp.shares, total-same (λ (y : View). y.ledger.share) s.views id v taker me refl, ap (undrawn k) (same_word version_at 0));
            place = inr (record {
              seat = id;
              view_is = taker;
              out = record { list = js; room = h.journal.entries.room; words = ws; manner = manner_of v.ledger.look; trail = trail_of v.ledger.look };
              here = set_at s.views id v taker me;
              has = refl;
              list = h.items;
              room = h.room;
              long = entries_long k.balances.items js;
              home = set_here s.homes 0 none inside;
              version = same_word version_at version_at ∙ h.words.version;
              words = λ a lt. same_word version_at (balance_at k a)
                  ∙ (h.words.balances a lt ∙ ap (λ (es : List Entry). balance k es a) (sym h.items));
              sole = λ j y at ne. ⊎_elim (λ t. t.0) (λ t. absurd (ne (h.none_out j y t.1))) (at_set s.views id j taker y at);
            });
            knows = λ j y at. ⊎_elim (λ t. subst (Knows k kp.journal) t.1 take_knows) (λ t. kp.knows j y t.1) (at_set s.views id j taker y at);
            fresh = λ q le. kp.fresh q (subst (λ (r : ℕ). r ≤ q) (same_word version_at 0) le);
            values = first_slot k s kp id v taker none me take_knows refl;
          };
        }

    pub take_tells : (m : Me Slot View) → m.0 ≡ v
        → TakenBy m (get_or s.words version_at 0) (taker, (0, Some (Entries h.journal)) ∷ m.1)
    take_tells m e =
        let z : m ≡ (v, m.1) = λ i. (e i, m.1) in
        subst (λ (x : Me Slot View). TakenBy x (get_or s.words version_at 0) (taker, (0, Some (Entries h.journal)) ∷ x.1)) (sym z)
        (record {
          journal = h.journal;
          words = ws;
          seat = refl;
          replays = subst (λ (j : Plan). Replays j.balances.items js) (sym planned) (subst (Replays k.balances.items) (sym h.items) kp.replays);
          long = entries_long k.balances.items js ∙ ap (λ (j : Plan). accounts_of j) (sym planned);
          are = λ a lt. ap (λ (j : Plan). balance j js a) (sym planned);
          version_is = h.words.version ∙ ap (λ (xs : List Entry). length xs) (sym h.items);
          seen = (let x = (kp.knows id v me).seen in let y = ap (λ (xs : List Entry). length xs) h.items in omega arith);
          room = (let x = h.room in let y = ap (λ (xs : List Entry). length xs) h.items in let w = kp.shares in
              let r = term_le (λ (u : View). u.ledger.share) s.views id v me in omega arith);
        })

-- what the step calls ask

-- a balance is loaded
pub loads : (k plan : Plan) (slots id : ℕ) (m : Me Slot View) (a i : ℕ) (st : Step Slot) → k ≡ plan
    → m.0.who.plan ≡ plan → i ≡ balance_at plan a → st.word ≡ i → a < accounts_of plan → IsNumbered m.0
    → holds_first m.0.calls → Allows (Stand k) slots id m i (λ y. y) (Loads st m)
loads k plan slots id m a i st same mine at word lt n holds =
    subst (λ (j : ℕ). Allows (Stand k) slots id m j (λ y. y) (Loads st m)) (sym at')
    (λ s both wide me _.
    let x : ℕ = get_or s.words (balance_at k a) 0 in
    let w : View = view m.0.who m.0.calls (loaded m.0.ledger a x) in (
      w,
      keeps,
      tt,
      load_stands k s both id m.0 me n holds a lt',
      λ b e. let same_a : a ≡ b = (let z = ap locks_of (mine ∙ sym same) in omega (arith, e, z, word, at')) in
          subst (λ (c : ℕ). LoadedBy c m x (w, m.1)) same_a (record {
            seat = refl;
            out = λ o has. load_out k s both id m.0 me n holds a lt' o has;
            one = state_of k s both id m.0 me n holds w (planned k s both id m.0 me n holds) (load_knows k s both id m.0 me n holds a lt');
          }),
    ))
  where
    at' : i ≡ balance_at k a
    at' = at ∙ ap (λ (j : Plan). balance_at j a) (sym same)

    lt' : a < accounts_of k
    lt' = subst (λ (j : Plan). a < accounts_of j) (sym same) lt

-- the version is loaded
pub sees : (k : Plan) (slots id : ℕ) (m : Me Slot View) (st : Step Slot) → IsNumbered m.0
    → holds_first m.0.calls → Allows (Stand k) slots id m version_at (λ y. y) (Sees st m)
sees k slots id m st n holds s both wide me _ =
    let w : View = view m.0.who m.0.calls (sighted m.0.ledger (get_or s.words version_at 0)) in (
      w,
      keeps,
      tt,
      sight_stands k s both id m.0 me n holds,
      record {
        rises = (let y = (both.keeps.knows id m.0 me).seen in let z = version_is k s both id m.0 me n holds in omega arith);
        seat = refl;
        one = state_of k s both id m.0 me n holds w (planned k s both id m.0 me n holds) (sight_knows k s both id m.0 me n holds);
      },
    )

-- the journal is taken out
pub takes_journal : (k : Plan) (slots id : ℕ) (m : Me Slot View) (st : Step Slot) → IsNumbered m.0
    → alone_first m.0.calls → m.0.ledger.out ≡ None
    → Allows (Stand k) slots id m version_at (λ y. y) (TakesJournal st m)
takes_journal k slots id m st n sole none_out s both wide me _ =
    let fit = both.runs.seats id m.0 n.0 me n.1 in
    let holds : holds_first m.0.calls =
    let most = any_once both.runs.world.kind m.0.calls.holds fit.held in let least = sole_le m.0.calls.holds in
    omega (arith, most, least, sole) in (
      taker k s both id m.0 me n holds none_out sole,
      takes 0 (Some (Entries (h k s both id m.0 me n holds none_out sole).journal)),
      (h k s both id m.0 me n holds none_out sole).home,
      take_stands k s both id m.0 me n holds none_out sole,
      take_tells k s both id m.0 me n holds none_out sole m refl,
    )

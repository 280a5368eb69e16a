-- What each row of a spinlock makes of a world, where no processor halts and nobody chooses.
use Rattle.std.proofs.Common.{◌≡◌, ℕ, Option, Some, None, Bool, false, refl, ◌&&◌, not, is_some}
use Rattle.std.proofs.Common.{if◌then◌else◌}
use Rattle.lk_law.proofs.Names.{Fields, NodeName, Miss, LockName, Mode, Cna, Native, Pv, Virt}
use Rattle.lk_law.proofs.Names.{Waiter, is_node, node_of, Effect, looks, misses, Flag, Frame, Pc}
use Rattle.lk_law.proofs.Names.{C1, E1, F1, G1, G2, G3, G4, G5, G6, G7, G8, G9, G10, G11, H1, N1}
use Rattle.lk_law.proofs.Names.{N2, P0, P1, P2, P3, P4, T1, T2, U1, V1, V2, W1, State}
use Rattle.lk_law.proofs.Names.{after_arrival, after_entry, after_flag, after_head, after_link}
use Rattle.lk_law.proofs.Names.{after_look, after_next, entry_row, is_sole, takes_out, after_fast}
use Rattle.lk_law.proofs.Names.{is_free, is_unlocked, takes, to_queue, is_rw_row, Part, part_of}
use Rattle.lk_law.proofs.Names.{Taking, lead_on, row_in, stores_entry, stores_flag, stores_halted}
use Rattle.lk_law.proofs.Names.{stores_kicked, stores_next, stores_queued, stores_runs}
use Rattle.lk_law.proofs.Names.{stores_second, stores_state, stores_word, World}
use Rattle.lk_rows.specs.rows.Queue.{queue_row, flag_row, next_row, own_node}
use Rattle.lk_rows.specs.rows.Spin.{spin_row, after_pending}
use Rattle.lk_law.proofs.common.Puts.{if_cases}
use Rattle.lk_law.proofs.rw.Else.{beside_word, beside_flag, beside_next, beside_queued}
use Rattle.lk_law.proofs.rw.Else.{beside_second, beside_runs, beside_state, beside_entry}
use Rattle.lk_law.proofs.rw.Else.{beside_halted, beside_kicked, IsIn, SpinLead, TellsOf, SpinMade}
use Rattle.lk_names.specs.declared.events.How.TheVariants as how
use Rattle.lk_rows.specs.declared.parts.Flag.TheVariants as flag

-- what the rows make

pub onward : (c : Pc) → is_rw_row c ≡ false → part_of c ≡ Taking → IsIn Taking c
onward c p q = record { spin = p; part = q }

-- an outcome of a row that leads on, and tells of its lock
abbrev pub Good : {A : Type 0} → Part → LockName → Effect A → Type 0
Good b l o = SpinLead b o.leads × TellsOf l o.tells

module _ {m : World} {w : Waiter} {f : Frame} {c : Pc} where
  pub word_made : (o : Effect Fields) → Good (part_of c) f.lock o
      → SpinMade m w f c (lead_on (stores_word m f.lock o.stores) w f o.leads, o.tells)
  word_made o good =
      record {
        stored = stores_word m f.lock o.stores;
        lead = o.leads;
        beside = beside_word m f.lock o.stores;
        is = refl;
        onward = good.0;
        tells = good.1;
      }

  pub flag_made : (n : NodeName) (o : Effect Flag) → Good (part_of c) f.lock o
      → SpinMade m w f c (lead_on (stores_flag m n o.stores) w f o.leads, o.tells)
  flag_made n o good =
      record {
        stored = stores_flag m n o.stores;
        lead = o.leads;
        beside = beside_flag m n o.stores;
        is = refl;
        onward = good.0;
        tells = good.1;
      }

  pub next_made : (n : NodeName) (o : Effect (Option NodeName)) → Good (part_of c) f.lock o
      → SpinMade m w f c (lead_on (stores_next m n o.stores) w f o.leads, o.tells)
  next_made n o good =
      record {
        stored = stores_next m n o.stores;
        lead = o.leads;
        beside = beside_next m n o.stores;
        is = refl;
        onward = good.0;
        tells = good.1;
      }

  pub second_made : (n : NodeName) (o : Effect (Option NodeName)) → Good (part_of c) f.lock o
      → SpinMade m w f c (lead_on (stores_second m n o.stores) w f o.leads, o.tells)
  second_made n o good =
      record {
        stored = stores_second m n o.stores;
        lead = o.leads;
        beside = beside_second m n o.stores;
        is = refl;
        onward = good.0;
        tells = good.1;
      }

  pub runs_made : (n : NodeName) (o : Effect ℕ) → Good (part_of c) f.lock o
      → SpinMade m w f c (lead_on (stores_runs m n o.stores) w f o.leads, o.tells)
  runs_made n o good =
      record {
        stored = stores_runs m n o.stores;
        lead = o.leads;
        beside = beside_runs m n o.stores;
        is = refl;
        onward = good.0;
        tells = good.1;
      }

  pub state_made : (n : NodeName) (o : Effect State) → Good (part_of c) f.lock o
      → SpinMade m w f c (lead_on (stores_state m n o.stores) w f o.leads, o.tells)
  state_made n o good =
      record {
        stored = stores_state m n o.stores;
        lead = o.leads;
        beside = beside_state m n o.stores;
        is = refl;
        onward = good.0;
        tells = good.1;
      }

  pub hash_made : (o : Effect (Option NodeName)) → Good (part_of c) f.lock o
      → SpinMade m w f c (lead_on (stores_entry m f.lock o.stores) w f o.leads, o.tells)
  hash_made o good =
      record {
        stored = stores_entry m f.lock o.stores;
        lead = o.leads;
        beside = beside_entry m f.lock o.stores;
        is = refl;
        onward = good.0;
        tells = good.1;
      }

  pub halted_made : (o : Effect Bool) → Good (part_of c) f.lock o
      → SpinMade m w f c (lead_on (stores_halted m w.cpu o.stores) w f o.leads, o.tells)
  halted_made o good =
      record {
        stored = stores_halted m w.cpu o.stores;
        lead = o.leads;
        beside = beside_halted m w.cpu o.stores;
        is = refl;
        onward = good.0;
        tells = good.1;
      }

  pub kick_made : (p : ℕ) (o : Effect Bool) → Good (part_of c) f.lock o
      → SpinMade m w f c (lead_on (stores_kicked m p o.stores) w f o.leads, o.tells)
  kick_made p o good =
      record {
        stored = stores_kicked m p o.stores;
        lead = o.leads;
        beside = beside_kicked m p o.stores;
        is = refl;
        onward = good.0;
        tells = good.1;
      }

  pub queued_made : (o : Effect ℕ) → Good (part_of c) f.lock o
      → SpinMade m w f c (lead_on (stores_queued m w.cpu o.stores) w f o.leads, o.tells)
  queued_made o good =
      record {
        stored = stores_queued m w.cpu o.stores;
        lead = o.leads;
        beside = beside_queued m w.cpu o.stores;
        is = refl;
        onward = good.0;
        tells = good.1;
      }

pub good_if : {A : Type 0} (l : LockName) (b : Bool) (x y : Effect A) → Good Taking l x
    → Good Taking l y → Good Taking l (if b then x else y)
good_if l b x y g h = if_cases (Good Taking l) b x y (λ e. g) (λ e. h)

pub onward_if : (b : Bool) (c d : Pc) → IsIn Taking c → IsIn Taking d
    → IsIn Taking (if b then c else d)
onward_if b c d p q = if_cases (IsIn Taking) b c d (λ e. p) (λ e. q)

on_queue : (x : Fields) → IsIn Taking (to_queue x)
on_queue x =
    onward_if x.pending G1 (if is_some x.tail then G1 else P1) (onward G1 refl refl)
    (onward_if (is_some x.tail) G1 P1 (onward G1 refl refl) (onward P1 refl refl))

on_fast : (mode : Mode) (x : Fields) → IsIn Taking (after_fast mode x)
on_fast Virt x = onward V1 refl refl
on_fast Pv x = onward G1 refl refl
on_fast Native x =
    onward_if (is_unlocked x.locked && x.pending && not (is_some x.tail)) P0 (to_queue x)
    (onward P0 refl refl) (on_queue x)
on_fast Cna x =
    onward_if (is_unlocked x.locked && x.pending && not (is_some x.tail)) P0 (to_queue x)
    (onward P0 refl refl) (on_queue x)

on_pending : (x : Fields) → IsIn Taking (after_pending x)
on_pending x =
    onward_if x.pending G1 (if is_some x.tail then P2
    else (if is_unlocked x.locked then P4 else P3)) (onward G1 refl refl)
    (onward_if (is_some x.tail) P2 (if is_unlocked x.locked then P4 else P3) (onward P2 refl refl)
    (onward_if (is_unlocked x.locked) P4 P3 (onward P4 refl refl) (onward P3 refl refl)))

on_entry : (mode : Mode) (me : Option NodeName) → IsIn Taking (after_entry mode me)
on_entry Pv me = onward H1 refl refl
on_entry Virt None = onward N1 refl refl
on_entry Virt (Some n) = onward G2 refl refl
on_entry Native None = onward N1 refl refl
on_entry Native (Some n) = onward G2 refl refl
on_entry Cna None = onward N1 refl refl
on_entry Cna (Some n) = onward G2 refl refl

on_arrival : (mode : Mode) (t : Option NodeName) → SpinLead Taking (after_arrival mode t).leads
on_arrival Pv None = onward E1 refl refl
on_arrival Virt None = onward G7 refl refl
on_arrival Native None = onward G7 refl refl
on_arrival Cna None = onward G7 refl refl
on_arrival Pv (Some n) = onward G5 refl refl
on_arrival Virt (Some n) = onward G5 refl refl
on_arrival Native (Some n) = onward G5 refl refl
on_arrival Cna (Some n) = onward G5 refl refl

on_head : (mode : Mode) → IsIn Taking (after_head mode)
on_head Cna = onward C1 refl refl
on_head Virt = onward G10 refl refl
on_head Native = onward G10 refl refl
on_head Pv = onward G10 refl refl

on_look : (f : Frame) (x : Fields) → IsIn Taking (after_look f x)
on_look f x =
    onward_if (is_unlocked x.locked && not x.pending)
    (if is_node x.tail (node_of f.me) && not (is_some f.second) then G8 else G9) G7
    (onward_if (is_node x.tail (node_of f.me) && not (is_some f.second)) G8 G9 (onward G8 refl refl)
    (onward G9 refl refl)) (onward G7 refl refl)

on_flag : (l : LockName) (x : Flag) → Good Taking l (after_flag x)
on_flag l flag.Unset = (onward G6 refl refl, tt)
on_flag l flag.Go = (onward G7 refl refl, tt)
on_flag l (flag.Second n) = (onward G7 refl refl, tt)

on_next : (l : LockName) (x : Option NodeName) → Good Taking l (after_next x)
on_next l None = (onward G10 refl refl, tt)
on_next l (Some n) = (onward G11 refl refl, tt)

on_link : (mode : Mode) (spins : ℕ) → SpinLead Taking (after_link mode spins)
on_link Pv spins = onward W1 refl refl
on_link Virt spins = onward G6 refl refl
on_link Native spins = onward G6 refl refl
on_link Cna spins = onward G6 refl refl

-- the world before it, its frame, and what its row makes
abbrev pub RowMakes : Pc → Type 0
RowMakes c = (m : World) (w : Waiter) (f : Frame) → SpinMade m w f c (row_in m w f c)

pub makes_F1 : RowMakes F1
makes_F1 m w f = let x = m.word f.lock in
    word_made (spin_row m.mode F1 f (m.word f.lock))
    (good_if f.lock (is_free x) (takes f how.Fast) (looks (after_fast m.mode x)) (tt, refl)
    (on_fast m.mode x, tt))

pub makes_T1 : RowMakes T1
makes_T1 m w f = let x = m.word f.lock in
    word_made (spin_row m.mode T1 f (m.word f.lock))
    (good_if f.lock (is_free x) (looks T2) (misses (Miss f.lock)) (onward T2 refl refl, tt)
    (tt, refl))

pub makes_T2 : RowMakes T2
makes_T2 m w f = let x = m.word f.lock in
    word_made (spin_row m.mode T2 f (m.word f.lock))
    (good_if f.lock (is_free x) (takes f how.Try) (misses (Miss f.lock)) (tt, refl) (tt, refl))

pub makes_U1 : RowMakes U1
makes_U1 m w f = word_made (spin_row m.mode U1 f (m.word f.lock)) (tt, refl)

pub makes_V1 : RowMakes V1
makes_V1 m w f =
    word_made (spin_row m.mode V1 f (m.word f.lock))
    (onward_if (is_free (m.word f.lock)) V2 V1 (onward V2 refl refl) (onward V1 refl refl), tt)

pub makes_V2 : RowMakes V2
makes_V2 m w f = let x = m.word f.lock in
    word_made (spin_row m.mode V2 f (m.word f.lock))
    (good_if f.lock (is_free x) (takes f how.Virt) (looks V1) (tt, refl) (onward V1 refl refl, tt))

pub makes_P0 : RowMakes P0
makes_P0 m w f = word_made (spin_row m.mode P0 f (m.word f.lock)) (on_queue (m.word f.lock), tt)

pub makes_P1 : RowMakes P1
makes_P1 m w f = word_made (spin_row m.mode P1 f (m.word f.lock)) (on_pending (m.word f.lock), tt)

pub makes_P2 : RowMakes P2
makes_P2 m w f = word_made (spin_row m.mode P2 f (m.word f.lock)) (onward G1 refl refl, tt)

pub makes_P3 : RowMakes P3
makes_P3 m w f =
    word_made (spin_row m.mode P3 f (m.word f.lock)) (
      onward_if (is_unlocked (m.word f.lock).locked) P4 P3 (onward P4 refl refl)
          (onward P3 refl refl),
      tt,
    )

pub makes_P4 : RowMakes P4
makes_P4 m w f = word_made (spin_row m.mode P4 f (m.word f.lock)) (tt, refl)

pub makes_G1 : RowMakes G1
makes_G1 m w f =
    queued_made (entry_row m.mode w.cpu (m.queued w.cpu))
    (on_entry m.mode (own_node w.cpu (m.queued w.cpu)), tt)

pub makes_G2 : RowMakes G2
makes_G2 m w f =
    word_made (queue_row m.mode G2 f (m.word f.lock))
    (onward_if (is_free (m.word f.lock)) G3 G4 (onward G3 refl refl) (onward G4 refl refl), tt)

pub makes_G3 : RowMakes G3
makes_G3 m w f = let x = m.word f.lock in
    word_made (queue_row m.mode G3 f (m.word f.lock))
    (good_if f.lock (is_free x) (takes_out f how.Retry) (looks G4) (tt, refl)
    (onward G4 refl refl, tt))

pub makes_G4 : RowMakes G4
makes_G4 m w f =
    word_made (queue_row m.mode G4 f (m.word f.lock)) (on_arrival m.mode (m.word f.lock).tail, refl)

pub makes_G5 : RowMakes G5
makes_G5 m w f =
    next_made (node_of f.prev) (next_row m.mode m.turns G5 f (m.node (node_of f.prev)).next)
    (on_link m.mode m.turns, tt)

pub makes_G6 : RowMakes G6
makes_G6 m w f =
    flag_made (node_of f.me) (flag_row G6 f (m.node (node_of f.me)).flag)
    (on_flag f.lock (m.node (node_of f.me)).flag)

pub makes_G7 : RowMakes G7
makes_G7 m w f = word_made (queue_row m.mode G7 f (m.word f.lock)) (on_look f (m.word f.lock), tt)

pub makes_G8 : RowMakes G8
makes_G8 m w f = let x = m.word f.lock in
    word_made (queue_row m.mode G8 f (m.word f.lock))
    (good_if f.lock (is_sole f x) (takes_out f how.Sole) (looks G9) (tt, refl)
    (onward G9 refl refl, tt))

pub makes_G9 : RowMakes G9
makes_G9 m w f = word_made (queue_row m.mode G9 f (m.word f.lock)) (on_head m.mode, refl)

pub makes_G10 : RowMakes G10
makes_G10 m w f =
    next_made (node_of f.me) (next_row m.mode m.turns G10 f (m.node (node_of f.me)).next)
    (on_next f.lock (m.node (node_of f.me)).next)

pub makes_G11 : RowMakes G11
makes_G11 m w f = flag_made (node_of f.y) (flag_row G11 f (m.node (node_of f.y)).flag) (tt, tt)

pub makes_N1 : RowMakes N1
makes_N1 m w f =
    word_made (queue_row m.mode N1 f (m.word f.lock))
    (onward_if (is_free (m.word f.lock)) N2 N1 (onward N2 refl refl) (onward N1 refl refl), tt)

pub makes_N2 : RowMakes N2
makes_N2 m w f = let x = m.word f.lock in
    word_made (queue_row m.mode N2 f (m.word f.lock))
    (good_if f.lock (is_free x) (takes_out f how.NoNode) (looks N1) (tt, refl)
    (onward N1 refl refl, tt))

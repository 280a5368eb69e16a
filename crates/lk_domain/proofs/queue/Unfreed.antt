-- The rows on the words of nodes free nothing.
use Rattle.std.proofs.Common.{◌≡◌, ℕ, Option, Some, None}
use Rattle.lk_domain.proofs.Names.{NodeName, Mode, Cna, Native, Pv, Virt, node_of, Flag, Go, Second}
use Rattle.lk_domain.proofs.Names.{Unset, G1, G5, G6, G10, G11, Frees, grip_led}
use Rattle.lk_rows.specs.rows.Queue.{after_flag, after_next, after_link}
use Rattle.lk_domain.proofs.words.LockPlays.{MayFree}

link_frees : (mode : Mode) (turns : ℕ) → grip_led (after_link mode turns) ≡ Frees → ⊥
link_frees Virt turns e = cc e
link_frees Native turns e = cc e
link_frees Cna turns e = cc e
link_frees Pv turns e = cc e

flag_frees : (x : Flag) → grip_led (after_flag x).leads ≡ Frees → ⊥
flag_frees Unset e = cc e
flag_frees Go e = cc e
flag_frees (Second n) e = cc e

next_frees : (x : Option NodeName) → grip_led (after_next x).leads ≡ Frees → ⊥
next_frees None e = cc e
next_frees (Some n) e = cc e

pub G1_frees : MayFree G1 → ⊥
G1_frees t = cc t.3

pub G5_frees : MayFree G5 → ⊥
G5_frees t = link_frees t.0.mode t.0.turns t.3

pub G6_frees : MayFree G6 → ⊥
G6_frees t = flag_frees (t.0.node (node_of t.2.me)).flag t.3

pub G10_frees : MayFree G10 → ⊥
G10_frees t = next_frees (t.0.node (node_of t.2.me)).next t.3

pub G11_frees : MayFree G11 → ⊥
G11_frees t = cc t.3

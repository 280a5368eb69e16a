-- Why a reader answers a fault, told of the bytes that were unread as the call began.
use Rattle.std.proofs.Common.{◌≡◌, ◌+◌, ◌≤◌, ◌^◌, ℕ, List, Option, length, sym, ap, ◌∙◌, refl, subst}
use Rattle.std.specs.Io.KnownBytes.{Keeps}
use Rattle.lk_text.specs.Lines.{PassesLineLimit, PassesInputLimit}
use Rattle.lk_text.specs.Reader.{unread, looked_at, Reason}
use Rattle.lk_text.specs.declared.reader.LineFault.{LineFault}
use Rattle.lk_text.specs.declared.reader.LineFault.TheVariants.{ReadFault, TooLong, TooMuch}
use Rattle.lk_text.specs.declared.reader.LineReader.{LineReader}
use Rattle.lk_text.proofs.Limits.{Begins-kept}

-- a line that is too long was so before more bytes were read
pub long_kept : (old new : Option (List ℕ)) (looked looked' : ℕ) → Keeps old new → looked' ≡ looked → PassesLineLimit new looked' → PassesLineLimit old looked
long_kept old new looked looked' k same p = record {
  front = p.front;
  stands = Begins-kept old new p.front k p.stands;
  plain = p.plain;
  long = p.long;
  within = subst (λ n. n + 4096 ≤ 2 ^ 30) same p.within;
}

-- an input that is too long was so before more bytes were read
pub much_kept : (old new : Option (List ℕ)) (looked looked' : ℕ) → Keeps old new → looked' ≡ looked → PassesInputLimit new looked' → PassesInputLimit old looked
much_kept old new looked looked' k same p = record {
  front = p.front;
  last = p.last;
  stands = Begins-kept old new _ k p.stands;
  plain = p.plain;
  all = ap (λ n. n + length p.front) (sym same) ∙ p.all;
  short = p.short;
  at_both = p.at_both;
}

-- a limit that is passed by what the reader holds now
pub Reason_of_limit : (old mid new : LineReader) (before between after : Option (List ℕ)) (faults faults' : ℕ) (fault : LineFault)
    → Keeps (unread old before) (unread mid between) → looked_at mid ≡ looked_at old → (fault ≡ ReadFault → ⊥)
    → (fault ≡ TooLong → (left : Option (List ℕ)) → PassesLineLimit (unread mid left) (looked_at mid))
    → (fault ≡ TooMuch → (left : Option (List ℕ)) → PassesInputLimit (unread mid left) (looked_at mid))
    → Reason old new before after faults faults' fault
Reason_of_limit old mid new before between after faults faults' ReadFault k same never long much = absurd (never refl)
Reason_of_limit old mid new before between after faults faults' TooLong k same never long much =
    long_kept _ (unread mid between) _ _ k same (long refl between)
Reason_of_limit old mid new before between after faults faults' TooMuch k same never long much =
    much_kept _ (unread mid between) _ _ k same (much refl between)

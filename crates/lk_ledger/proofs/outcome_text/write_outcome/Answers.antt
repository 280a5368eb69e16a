use Rattle.std.proofs.Common.{length}
use Rattle.std.proofs.lemmas.Result.{err_from_is_err_and}
use Rattle.lk_text.specs.Block.{waiting}
use Rattle.lk_job_forms.specs.Texts.{entry_lines_from, seen_lines, balance_lines_from, total_text}
use Rattle.lk_ledger.proofs.Parts.{cut_at_first, cut_at_second, cut_at_third, all_put, cut_at_last}
use Rattle.lk_ledger.proofs.outcome_text.write_outcome.Goals as goal

pub returns-in_err-write_entries-clause-err : goal.returns-in_err-write_entries-clause-err
returns-in_err-write_entries-clause-err g c =
    let journal = c.args.journal.now.items in
    let reads = c.args.reads.now.items in
    let p = err_from_is_err_and c.from_residual.result c.from_residual.ensures.1 in
    rw p.1 (cut_at_first (waiting c.args.block.now) (entry_lines_from 1 journal) (seen_lines reads)
    (balance_lines_from 0 c.args.balances.now.items) (total_text (length journal) (length reads))
    _ _ (rw c.as_slice.ensures at c.in_err-write_entries.ensures.err))

pub returns-in_err-write_reads-clause-err : goal.returns-in_err-write_reads-clause-err
returns-in_err-write_reads-clause-err g c =
    let journal = c.args.journal.now.items in
    let reads = c.args.reads.now.items in
    let from = c.from_residual-in_err-write_reads in
    let p = err_from_is_err_and from.result from.ensures.1 in
    rw p.1 (cut_at_second (waiting c.args.block.now) (entry_lines_from 1 journal) (seen_lines reads)
    (balance_lines_from 0 c.args.balances.now.items) (total_text (length journal) (length reads))
    _ _ _ _ (rw c.as_slice.ensures at c.in_ok-write_entries.ensures.ok)
    (rw c.as_slice-2.ensures at c.in_err-write_reads.ensures.err))

pub returns-in_err-write_balances-clause-err : goal.returns-in_err-write_balances-clause-err
returns-in_err-write_balances-clause-err g c =
    let journal = c.args.journal.now.items in
    let reads = c.args.reads.now.items in
    let from = c.from_residual-in_err-write_balances in
    let p = err_from_is_err_and from.result from.ensures.1 in
    rw p.1 (cut_at_third (waiting c.args.block.now) (entry_lines_from 1 journal) (seen_lines reads)
    (balance_lines_from 0 c.args.balances.now.items) (total_text (length journal) (length reads))
    _ _ _ _ (rw c.as_slice.ensures at c.in_ok-write_entries.ensures.ok)
    _ _ (rw c.as_slice-2.ensures at c.in_ok-write_reads.ensures.ok)
    (rw c.as_slice-3.ensures at c.in_err-write_balances.ensures.err))

pub returns-clause-ok : goal.returns-clause-ok
returns-clause-ok g c =
    let journal = c.args.journal.now.items in
    let reads = c.args.reads.now.items in
    all_put (waiting c.args.block.now) (entry_lines_from 1 journal) (seen_lines reads)
    (balance_lines_from 0 c.args.balances.now.items) (total_text (length journal) (length reads))
    _ _ _ _ (rw c.as_slice.ensures at c.in_ok-write_entries.ensures.ok)
    _ _ (rw c.as_slice-2.ensures at c.in_ok-write_reads.ensures.ok)
    _ _ (rw c.as_slice-3.ensures at c.in_ok-write_balances.ensures.ok)
    c.write_total.result (rw (c.len.ensures, c.len-2.ensures) at c.write_total.ensures.ok)

pub returns-clause-err : goal.returns-clause-err
returns-clause-err g c =
    let journal = c.args.journal.now.items in
    let reads = c.args.reads.now.items in
    cut_at_last (waiting c.args.block.now) (entry_lines_from 1 journal) (seen_lines reads)
    (balance_lines_from 0 c.args.balances.now.items) (total_text (length journal) (length reads))
    _ _ _ _ (rw c.as_slice.ensures at c.in_ok-write_entries.ensures.ok)
    _ _ (rw c.as_slice-2.ensures at c.in_ok-write_reads.ensures.ok)
    _ _ (rw c.as_slice-3.ensures at c.in_ok-write_balances.ensures.ok)
    c.write_total.result (rw (c.len.ensures, c.len-2.ensures) at c.write_total.ensures.err)

use Rattle.lk_law.proofs.rw.RowsKeep.{reader_first_keeps, reader_wait_keeps, writer_first_keeps}
use Rattle.lk_law.proofs.rw.RowsKeep.{writer_claim_keeps, reader_release_keeps}
use Rattle.lk_law.proofs.rw.RowsKeep.{writer_release_keeps}
use Rattle.lk_law.proofs.laws.rw_rows_keep.Goals as goal

pub returns-clause-reader_first : goal.returns-clause-reader_first
returns-clause-reader_first c = reader_first_keeps

pub returns-clause-reader_wait : goal.returns-clause-reader_wait
returns-clause-reader_wait c = reader_wait_keeps

pub returns-clause-writer_first : goal.returns-clause-writer_first
returns-clause-writer_first c = writer_first_keeps

pub returns-clause-writer_claim : goal.returns-clause-writer_claim
returns-clause-writer_claim c = writer_claim_keeps

pub returns-clause-reader_release : goal.returns-clause-reader_release
returns-clause-reader_release c = reader_release_keeps

pub returns-clause-writer_release : goal.returns-clause-writer_release
returns-clause-writer_release c = writer_release_keeps

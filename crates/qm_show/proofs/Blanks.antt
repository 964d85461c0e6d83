-- The blanks of columns, and the columns of an entry.
use Rattle.std.proofs.Common.{◌≡◌, ◌≤◌, ◌-◌, ◌++◌, ◌∙◌, ap, ℕ, List, replicate, codes, arith, append_assoc, slice_range}
use Rattle.std.proofs.lemmas.List.{take-replicate}
use Rattle.qm_kinds.specs.declared.entry.Entry.{Entry}
use Rattle.qm_kinds.specs.declared.entry.EntryState.{EntryState}
use Rattle.qm_model.specs.Words.{entry_text, status_text}
use Rattle.qm_show.specs.Columns.{columns_text}

-- the front of sixteen blanks
pub blanks_cut : (n k : ℕ) → n ≡ k → n ≤ 16 → slice_range (codes "                ") 0 n ≡ replicate k 32
blanks_cut n k is within = take-replicate (n - 0) 16 32 (omega (arith, within)) ∙ ap (λ m. replicate m 32) (omega (arith, is))

-- the columns, and the status behind them
pub entry_is : (e : Entry) (columns : List ℕ) (state : EntryState) → columns ≡ columns_text e → state ≡ e.state → columns ++ status_text state ≡ entry_text e
entry_is e columns state is same = rw (is, same) (simp append_assoc)

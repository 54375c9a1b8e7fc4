-- The estimate after a page came, went or was replaced (01, rule 12): the model's rule, for the key and the record of the page.
--
use Rattle.std.specs.Prelude.{ℕ}
use Rattle.page.specs.declared.record.PageRecord.{PageRecord}
use Rattle.model.specs.Cache.{count_in, count_out, count_over}
use Rattle.model.specs.Row.{Page}

-- a page with this key and this record: the rule asks for nothing else of it
abbrev pub page_with : ℕ → PageRecord → Page
page_with key page = record { slot = 0; key = key; handle = 0; state = page }

-- insertion of a page that counts adds 1
abbrev pub counted_in : ℕ → PageRecord → ℕ → ℕ
counted_in key page = count_in (page_with key page)

-- removing one subtracts 1
abbrev pub counted_out : ℕ → PageRecord → ℕ → ℕ
counted_out key page = count_out (page_with key page)

-- replacement follows the change
abbrev pub counted_over : ℕ → (old new : PageRecord) → ℕ → ℕ
counted_over key old new = count_over (page_with key old) (page_with key new)

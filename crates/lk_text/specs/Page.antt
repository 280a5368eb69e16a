-- A page that is put together.
use Rattle.std.specs.Prelude.{ℕ, List, take}
use Rattle.lk_text.specs.declared.page.Page.{Page}

-- the bytes of the page so far
abbrev pub page_text : Page → List ℕ
page_text page = take page.len page.bytes

-- What a list feed means. Assumes nothing.
use Rattle.std.specs.Prelude.{List, map, ℤ}
use Rattle.feeds.specs.Steps.{End, clean, cut}
use Rattle.feeds.specs.declared.list.ListFeed.{ListFeed}

-- the rows that a list feed has yet to give: its records, cut to its width
abbrev pub list_coming : ListFeed → List (List ℤ)
list_coming f = map (cut f.width.fields) f.rest.now

-- how a list feed ends: clean
abbrev pub list_ending : ListFeed → End
list_ending f = clean

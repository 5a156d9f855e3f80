-- An item and its printed text.
use Rattle.std.specs.Prelude.{ℕ, Bool, ◌&&◌, ◌==◌, List, [], ◌∷◌, ◌++◌, if◌then◌else◌}
use Rattle.std.specs.Str.{bytes_eq}
use Rattle.std.specs.Fmt.{decimal}
use Rattle.written_items.specs.declared.item.Item.{Item}

-- the same element and the same label
abbrev pub item_eq : Item → Item → Bool
item_eq a b = bytes_eq a.symbol b.symbol && (a.label == b.label)

-- the bytes `[` and `]`
abbrev pub opening_bracket : ℕ
opening_bracket = 91

abbrev pub closing_bracket : ℕ
closing_bracket = 93

-- a symbol, or a labelled isotope as `[13C]`
abbrev pub item_text : Item → List ℕ
item_text item =
    if item.label == 0 then item.symbol
    else (opening_bracket ∷ decimal item.label ++ item.symbol ++ closing_bracket ∷ [])

-- a count in digits, and nothing for 1
abbrev pub count_text : ℕ → List ℕ
count_text count = if count == 1 then [] else decimal count

-- Items as they are written in a text. A text is the list of its bytes.
--     item   = symbol | "[" digits symbol "]"
--     symbol = capital small? small?    as many small letters as follow, at most two
--     digits = digit digit ..           one or more
use Rattle.std.specs.Prelude.{ℕ, ◌≡◌, ◌<◌, ◌-◌, min, ◌^◌, Bool, true, false, ◌==◌, ◌||◌, ◌&&◌, nat_lt, List, [], ◌∷◌}
use Rattle.std.specs.Prelude.{◌++◌, length, IsTrue, Option, Some, None, IfSome, option_map}
use Rattle.std.specs.List.{list_all}
use Rattle.std.specs.Option.{option_map_or}
use Rattle.std.specs.Char.{is_ascii_digit}
use Rattle.std.specs.Str.Parse.{digits_value}
use Rattle.fixed_decimal.specs.DecimalTexts.{IsDigits}
use Rattle.element_table.specs.SymbolText.{is_symbol, is_capital, is_small}
use Rattle.written_items.specs.declared.item.Item.{Item}
use Rattle.written_items.specs.declared.item.LeadingItem.{LeadingItem}
use Rattle.written_items.specs.Items.{opening_bracket, closing_bracket}

-- an item as it is written: its symbol, and the digits in brackets before it, if it has brackets
pub record WrittenItem : Type 0 where
  pub symbol : List ℕ
  pub digits : Option (List ℕ)

-- digits alone, none or more
abbrev pub are_digits : List ℕ → Bool
are_digits bytes = list_all is_ascii_digit bytes

-- an item of the grammar
pub record IsWrittenItem (item : WrittenItem) : Type 0 where
  pub symbol : IsTrue (is_symbol item.symbol)
  pub digits : IfSome item.digits IsDigits

-- a symbol alone, or in brackets behind digits
abbrev pub text_with : Option (List ℕ) → List ℕ → List ℕ
text_with None symbol = symbol
text_with (Some digits) symbol = opening_bracket ∷ (digits ++ (symbol ++ (closing_bracket ∷ [])))

-- the item's text
abbrev pub written_text : WrittenItem → List ℕ
written_text item = text_with item.digits item.symbol

-- the item that is written: digits are its mass number, with any zeros before them
abbrev pub item_of : WrittenItem → Item
item_of item = record { symbol = item.symbol; label = option_map_or (digits_value 10) item.digits 0 }

-- Whether what is written names an item, which has a mass number of 1 to 2^32 - 1 where it is labelled. The mass
-- number 0 is of no isotope.
abbrev pub names_item : WrittenItem → Bool
names_item item =
    option_map_or (λ digits. nat_lt 0 (digits_value 10 digits) && nat_lt (digits_value 10 digits)
    (2 ^ 32)) item.digits true

-- a text begins with a byte that passes the test
abbrev pub begins : (ℕ → Bool) → List ℕ → Bool
begins p [] = false
begins p (byte ∷ rest) = p byte

-- a byte with which an item begins
abbrev pub is_item_start : ℕ → Bool
is_item_start byte = is_capital byte || (byte == opening_bracket)

-- the text goes on with no small letter, where a symbol could take one more
abbrev pub EndsSymbol : List ℕ → List ℕ → Type 0
EndsSymbol symbol rest = length symbol < 3 → begins is_small rest ≡ false

-- The text begins with this symbol, and with no longer one.
pub record IsLeadingSymbol (text symbol : List ℕ) : Type 0 where
  pub is : IsTrue (is_symbol symbol)
  pub rest : List ℕ
  pub spelled : text ≡ symbol ++ rest
  pub ends : EndsSymbol symbol rest

-- the text begins with an item
pub record BeginsWithItem (text : List ℕ) : Type 0 where
  pub item : WrittenItem
  pub is : IsWrittenItem item
  pub rest : List ℕ
  pub spelled : text ≡ written_text item ++ rest

-- what a reader tells of a written item: a mass number above 2^32 - 1 as 2^32 - 1, and the bytes of its text
abbrev pub item_value : WrittenItem → LeadingItem
item_value item =
    record {
      symbol = item.symbol;
      number = option_map (λ digits. min (digits_value 10 digits) (2 ^ 32 - 1)) item.digits;
      byte_count = length (written_text item);
    }

-- The text begins with this item, and with no other that has a longer symbol.
pub record IsLeadingItem (text : List ℕ) (item : WrittenItem) : Type 0 where
  pub is : IsWrittenItem item
  pub rest : List ℕ
  pub spelled : text ≡ written_text item ++ rest
  pub ends : item.digits ≡ None → EndsSymbol item.symbol rest

-- and this is told of it
pub record TellsLeadingItem (text : List ℕ) (value : LeadingItem) : Type 0 where
  pub item : WrittenItem
  pub leading : IsLeadingItem text item
  pub value_is : value ≡ item_value item

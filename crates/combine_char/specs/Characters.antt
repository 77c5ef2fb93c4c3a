-- classes of characters, each as its set of code points
use Rattle.std.specs.Prelude.{ℕ, Bool, ◌==◌, ◌||◌}
use Rattle.std.specs.Int.{is_in_range}
use Rattle.unicode.specs.Binary.{is_alphabetic, is_lowercase, is_uppercase}
use Rattle.ucd_category.specs.GeneralCategory.{general_category}
use Rattle.ucd_category.specs.GeneralCategoryGroup.{in_group}
use Rattle.ucd_category.specs.declared.GeneralCategoryGroup.TheVariants as groups

-- `0` to `9`
abbrev pub is_digit_char : ℕ → Bool
is_digit_char char = is_in_range 0x30 0x39 char

-- `0` to `7`
abbrev pub is_oct_digit_char : ℕ → Bool
is_oct_digit_char char = is_in_range 0x30 0x37 char

-- `0` to `9`, `A` to `F`, `a` to `f`
abbrev pub is_hex_digit_char : ℕ → Bool
is_hex_digit_char char = (is_in_range 0x30 0x39 char || is_in_range 0x41 0x46 char) || is_in_range 0x61 0x66 char

-- white space
abbrev pub is_space_char : ℕ → Bool
is_space_char char =
    is_in_range 0x09 0x0D char
    || (char == 0x20 || (char == 0x85 || (char == 0xA0 || (char == 0x1680 || (is_in_range 0x2000 0x200A char || (is_in_range 0x2028 0x2029 char || (char == 0x202F || (char == 0x205F || char == 0x3000))))))))

abbrev pub is_tab_char : ℕ → Bool
is_tab_char char = char == 0x09

-- line feed
abbrev pub is_newline_char : ℕ → Bool
is_newline_char char = char == 0x0A

abbrev pub is_carriage_return_char : ℕ → Bool
is_carriage_return_char char = char == 0x0D

-- the property Uppercase
abbrev pub is_upper_char : ℕ → Bool
is_upper_char = is_uppercase

-- the property Lowercase
abbrev pub is_lower_char : ℕ → Bool
is_lower_char = is_lowercase

-- the property Alphabetic
abbrev pub is_letter_char : ℕ → Bool
is_letter_char = is_alphabetic

-- the property Alphabetic, or a general category of numbers: Nd, Nl or No
abbrev pub is_alpha_num_char : ℕ → Bool
is_alpha_num_char char = is_alphabetic char || in_group groups.Number (general_category char)

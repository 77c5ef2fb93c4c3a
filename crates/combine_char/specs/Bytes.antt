-- classes of bytes, each as its set
use Rattle.std.specs.Prelude.{ℕ, Bool, ◌==◌, ◌||◌}
use Rattle.std.specs.Int.{is_in_range}

-- `0` to `9`
abbrev pub is_digit_byte : ℕ → Bool
is_digit_byte byte = is_in_range 0x30 0x39 byte

-- `0` to `7`
abbrev pub is_oct_digit_byte : ℕ → Bool
is_oct_digit_byte byte = is_in_range 0x30 0x37 byte

-- `0` to `9`, `A` to `F`, `a` to `f`
abbrev pub is_hex_digit_byte : ℕ → Bool
is_hex_digit_byte byte = (is_in_range 0x30 0x39 byte || is_in_range 0x41 0x46 byte) || is_in_range 0x61 0x66 byte

-- tab, line feed, form feed, carriage return and space
abbrev pub is_space_byte : ℕ → Bool
is_space_byte byte = (is_in_range 0x09 0x0A byte || is_in_range 0x0C 0x0D byte) || byte == 0x20

abbrev pub is_tab_byte : ℕ → Bool
is_tab_byte byte = byte == 0x09

-- line feed
abbrev pub is_newline_byte : ℕ → Bool
is_newline_byte byte = byte == 0x0A

abbrev pub is_carriage_return_byte : ℕ → Bool
is_carriage_return_byte byte = byte == 0x0D

-- `A` to `Z`
abbrev pub is_upper_byte : ℕ → Bool
is_upper_byte byte = is_in_range 0x41 0x5A byte

-- `a` to `z`
abbrev pub is_lower_byte : ℕ → Bool
is_lower_byte byte = is_in_range 0x61 0x7A byte

-- `A` to `Z`, `a` to `z`
abbrev pub is_letter_byte : ℕ → Bool
is_letter_byte byte = is_in_range 0x41 0x5A byte || is_in_range 0x61 0x7A byte

-- `0` to `9`, `A` to `Z`, `a` to `z`
abbrev pub is_alpha_num_byte : ℕ → Bool
is_alpha_num_byte byte = (is_in_range 0x30 0x39 byte || is_in_range 0x41 0x5A byte) || is_in_range 0x61 0x7A byte

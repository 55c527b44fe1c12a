-- The setups that are accepted, and the size of their index (docs/FORMATS.md).
use Rattle.std.specs.Prelude.{ℕ, ◌+◌, ◌-◌, ◌*◌, ◌^◌, ◌==◌, nat_lt, Bool, length, sum_by, position, slice_index, Option, None, Some, is_none, option_map, if◌then◌else◌}
use Rattle.std.specs.Int.{div_ceil}
use Rattle.std.specs.List.{list_any, range_with_len}
use Rattle.std.specs.Option.{option_or}
use Rattle.two_level.specs.ShapeFault.{shape_fault}
use Rattle.two_level.specs.declared.shape_fault.ShapeFault.{ShapeFault}
use Rattle.two_level.specs.declared.shape_fault.ShapeFault.TheVariants.{BadCell, BadBlock}
use Rattle.two_level.specs.Plan.{plan, block_count}
use Rattle.client_registry.specs.Documents.{list_lengths}
use Rattle.client_registry.specs.Setup.{Setup, setup_words}
use Rattle.client_registry.specs.declared.faults.SizeFault.{SizeFault}
use Rattle.client_registry.specs.declared.faults.SizeFault.TheVariants.{BadParameter, ListTooLong, TooManyBytes}

-- how many blocks of the array the lists of the words take
abbrev pub blocks_of : Setup → ℕ
blocks_of s = sum_by (λ n. block_count (plan s.shape n)) (list_lengths s.documents)

-- a padded count: the next multiple of q that is at least n; zero stays zero
abbrev pub padded : (q n : ℕ) → ℕ
padded q n = div_ceil n q * q

-- how many dummies a setup has: as many entries and blocks as its words and blocks lack to their padded counts
abbrev pub dummy_entries : Setup → ℕ
dummy_entries s = padded s.pad (length (setup_words s)) - length (setup_words s)

abbrev pub dummy_blocks : Setup → ℕ
dummy_blocks s = padded s.pad (blocks_of s) - blocks_of s

-- how many entries its dictionary has, and how many blocks its array, dummies included
abbrev pub padded_words : Setup → ℕ
padded_words s = length (setup_words s) + dummy_entries s

abbrev pub padded_blocks : Setup → ℕ
padded_blocks s = blocks_of s + dummy_blocks s

-- the bytes of the index, dummies included: for each entry a label of 16, a kind byte and b numbers of 8; for each block as many numbers as it holds
abbrev pub index_bytes : Setup → ℕ
index_bytes s = padded_words s * (17 + 8 * s.shape.b) + padded_blocks s * (8 * s.shape.big)

-- how many update frames the setup takes: its begin and end, the entries in parts of 1,024, the blocks in parts of 256
abbrev pub frames_needed : Setup → ℕ
frames_needed s = 2 + div_ceil (padded_words s) 1024 + div_ceil (padded_blocks s) 256

-- the fault of a parameter that is outside its limits: b, which is parameter 0, else big
abbrev pub refused_shape : ShapeFault → SizeFault
refused_shape (BadCell b) = BadParameter 0 b
refused_shape (BadBlock big) = BadParameter 1 big

-- whether it is a power of two from 1 to 4,096
abbrev pub is_pad : ℕ → Bool
is_pad q = list_any (λ k. q == 2 ^ k) (range_with_len 0 13)

-- the parameter that is outside its limits: b of 1 to 64, else big of 1 to 256, else Q, which is parameter 2
abbrev pub parameter_refusal : Setup → Option SizeFault
parameter_refusal s =
    option_or (option_map refused_shape (shape_fault s.shape)) (if is_pad s.pad then None else Some (BadParameter 2 s.pad))

-- the first word whose list is too long for two levels
abbrev pub list_refusal : Setup → Option SizeFault
list_refusal s =
    option_map (λ word. ListTooLong word (slice_index (list_lengths s.documents) word)) (position (λ n. is_none (plan s.shape n)) (list_lengths s.documents))

-- more than 2^28 bytes of index
abbrev pub bytes_refusal : Setup → Option SizeFault
bytes_refusal s = if nat_lt (2 ^ 28) (index_bytes s) then Some (TooManyBytes (index_bytes s)) else None

-- why a setup makes no index: the first of these causes that stands
abbrev pub size_refusal : Setup → Option SizeFault
size_refusal s = option_or (parameter_refusal s) (option_or (list_refusal s) (bytes_refusal s))

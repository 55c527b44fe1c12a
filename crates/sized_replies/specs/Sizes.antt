-- Where a reply ends that begins with its length.
use Rattle.std.specs.Prelude.{ℕ, ◌+◌, ◌==◌, ◌||◌, List, length, take, Option, Some, None, nat_lt, if◌then◌else◌}
use Rattle.std.specs.Int.{w32, from_be_bytes}

-- how many bytes the reply in front has, its four length bytes among them: these four if the length is out of its range, which is
-- 1 to `most`, and None if the bytes end inside the reply
abbrev pub size_in_front : (most : ℕ) → List ℕ → Option ℕ
size_in_front most bytes =
    let size = from_be_bytes w32 (take 4 bytes) in
    if nat_lt (length bytes) 4 then None
    else if (size == 0) || nat_lt most size then Some 4
    else if nat_lt (length bytes) (4 + size) then None
    else Some (4 + size)

-- Texts and indexes that are written into a caller's room. Each is a list, of bytes or of indexes.
use Rattle.std.specs.Prelude.{◌≡◌, ℕ, ◌≤◌, ◌<◌, List, ◌++◌, drop, length}

-- The room begins with the list, and the rest of it is unchanged. The written number is the length of the list.
abbrev pub IsWritten : {X : Type 0} → List X → List X → List X → ℕ → Type 0
IsWritten list room room' told = (told ≡ length list) × (length list ≤ length room) × (room' ≡ list ++ drop (length list) room)

-- The list is longer than the room, which is unchanged. The written number is the length of the list.
abbrev pub IsTooLong : {X : Type 0} → List X → List X → List X → ℕ → Type 0
IsTooLong list room room' told = (told ≡ length list) × (length room < length list) × (room' ≡ room)

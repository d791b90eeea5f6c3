-- The last component, the basename and the extension of a path. A path is a list of bytes.
use Rattle.std.specs.Prelude.{ℕ, suc, ◌+◌, ◌==◌, List, [], ◌∷◌, Bool, true, false, Option, Some, None, drop, codes, if◌then◌else◌}
use Rattle.std.specs.Str.{bytes_eq}

-- the byte is `/`
abbrev pub is_separator : ℕ → Bool
is_separator byte = byte == 47

-- the byte is `.`
abbrev pub is_dot : ℕ → Bool
is_dot byte = byte == 46

-- the last position in a list, given the last position in the list without its first byte, and whether the first byte
-- passes the test
abbrev pub with_first : Option ℕ → Bool → Option ℕ
with_first (Some k) first = Some (suc k)
with_first None true = Some 0
with_first None false = None

-- the position of the last byte that passes the test, counted from 0
abbrev pub last_position : (ℕ → Bool) → List ℕ → Option ℕ
last_position test [] = None
last_position test (c ∷ cs) = with_first (last_position test cs) (test c)

-- the bytes after a position, or all bytes if there is no position
abbrev pub after_position : List ℕ → Option ℕ → List ℕ
after_position bytes None = bytes
after_position bytes (Some k) = drop (k + 1) bytes

-- the bytes from a position on, or no bytes if there is no position
abbrev pub from_position : List ℕ → Option ℕ → List ℕ
from_position bytes None = []
from_position bytes (Some k) = drop k bytes

-- the bytes after the last `/` of a path, or the whole path if it has none
abbrev pub last_component : List ℕ → List ℕ
last_component path = after_position path (last_position is_separator path)

-- The basename of a path: its last component, but nothing if that is `..`.
abbrev pub basename_of : List ℕ → List ℕ
basename_of path = if bytes_eq (last_component path) (codes "..") then [] else last_component path

-- the bytes of a name from its last `.` on, or nothing if it has none
abbrev pub extension_in : List ℕ → List ℕ
extension_in name = from_position name (last_position is_dot name)

-- The extension of a path: the bytes of its basename from the last `.` on.
abbrev pub extension_of : List ℕ → List ℕ
extension_of path = extension_in (basename_of path)

-- The bytes of a path's last component from the last `.` on, also if that component is `..`: then they are `.`.
abbrev pub component_extension : List ℕ → List ℕ
component_extension path = extension_in (last_component path)

-- Paths below a folder.
use Rattle.std.specs.Prelude.{◌≡◌, ℕ, List, [], ◌∷◌, ◌++◌}

-- a path below the folder: the folder, a `/`, and any bytes, perhaps none
abbrev pub path_below : List ℕ → List ℕ → List ℕ
path_below folder rest = folder ++ 47 ∷ rest

-- the folder and the `/`: the beginning of each path below the folder
abbrev pub folder_start : List ℕ → List ℕ
folder_start folder = folder ++ 47 ∷ []

-- the first text begins with the second
abbrev pub BeginsWith : List ℕ → List ℕ → Type 0
BeginsWith x y = (rest : List ℕ) × (y ++ rest ≡ x)

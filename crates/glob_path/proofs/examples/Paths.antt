-- Examples of basenames and extensions, and of last components and theirs. Each row computes.
use Rattle.std.specs.Prelude.{◌≡◌, ℕ, List, [], ◌∷◌, map, codes, refl}
use Prim.Native.String.{String}
use Rattle.glob_path.specs.PathParts.{basename_of, extension_of, last_component, component_extension}

-- the bytes of two texts
abbrev both : String × String → List ℕ × List ℕ
both texts = (codes texts.0, codes texts.1)

abbrev parts_of : String → List ℕ × List ℕ
parts_of path = (basename_of (codes path), extension_of (codes path))

-- each path has this basename and this extension
abbrev HaveParts : List (String × String × String) → Type 0
HaveParts rows = map (λ row. parts_of row.0) rows ≡ map (λ row. both (row.1, row.2)) rows

parts : HaveParts (
    ("a.tar.gz", "a.tar.gz", ".gz")  -- two dots inside
    ∷ ("x/.hidden", ".hidden", ".hidden")  -- hidden
    ∷ ("../a", "a", "")  -- after dots
    ∷ ("a/b.rs", "b.rs", ".rs")  -- file
    ∷ ("..rs", "..rs", ".rs")  -- dots in front
    ∷ (".rs", ".rs", ".rs")  -- extension alone
    ∷ ("a/foo", "foo", "")  -- no dot
    ∷ ("a/.", ".", ".")  -- last dot
    ∷ ("a/..", "", "")  -- last dots
    ∷ ("..", "", "")  -- dots alone
    ∷ ("a/...", "...", ".")  -- three dots
    ∷ ("a/", "", "")  -- last slash
    ∷ ("a.b/c", "c", "")  -- dot before slash
    ∷ ("", "", "")  -- empty
    ∷ [])
parts = refl

-- the bytes FF and 2E, which are not UTF-8
not_utf8 : (basename_of (255 ∷ 46 ∷ []) ≡ 255 ∷ 46 ∷ []) × (extension_of (255 ∷ 46 ∷ []) ≡ 46 ∷ [])
not_utf8 = (refl, refl)

abbrev component_of : String → List ℕ × List ℕ
component_of path = (last_component (codes path), component_extension (codes path))

-- each path has this last component, and this is the extension of that
abbrev HaveComponents : List (String × String × String) → Type 0
HaveComponents rows = map (λ row. component_of row.0) rows ≡ map (λ row. both (row.1, row.2)) rows

components : HaveComponents (
    ("a/..", "..", ".")  -- component of last dots
    ∷ ("..", "..", ".")  -- component of dots alone
    ∷ ("a.b/c.tar.gz", "c.tar.gz", ".gz")  -- component of file
    ∷ ("a.b/c", "c", "")  -- component of no dot
    ∷ ("a.b/", "", "")  -- component of last slash
    ∷ [])
components = refl

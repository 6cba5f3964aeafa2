-- Values that may be missing, kept as the values and one mark each: this project's own rule.
use Rattle.std.specs.Prelude.{Bool, List, [], ◌∷◌, Option, Some, None, if◌then◌else◌}

-- the values whose marks say that they are there, and none in the places of the others
abbrev pub options_of : {T : Type 0} → List Bool → List T → List (Option T)
options_of [] values = []
options_of (mark ∷ marks) [] = []
options_of (mark ∷ marks) (value ∷ values) = (if mark then Some value else None) ∷ options_of marks values

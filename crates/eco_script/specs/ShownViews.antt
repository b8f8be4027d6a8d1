-- The values that the program shows, as those of the definitions.
use Rattle.eco_script.specs.Values.{Shown}
use Rattle.eco_script.specs.declared.shown_value.ShownValue.{ShownValue}

-- the value, with how many of its fields are shown
abbrev pub shown_view : ShownValue → Shown
shown_view s = (s.arity, s.value)

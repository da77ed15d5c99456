-- The numbers of the refusals, as the enums define them: `number` of each is proved to give these.
use Rattle.std.specs.Prelude.{ℕ}
use Rattle.pattern.specs.declared.answer.FireRefusal.{FireRefusal}
use Rattle.pattern.specs.declared.answer.FireRefusal.TheVariants.{NoSuchRule, ChoiceNotHeld, ConditionNotMet, EffectContradictory, BeyondModel}
use Rattle.pattern.specs.declared.answer.LookRefusal.{LookRefusal}
use Rattle.pattern.specs.declared.answer.LookRefusal.TheVariants.{NoSuchRow}

abbrev pub fire_refusal_number : FireRefusal → ℕ
fire_refusal_number NoSuchRule = 21
fire_refusal_number ChoiceNotHeld = 22
fire_refusal_number ConditionNotMet = 23
fire_refusal_number EffectContradictory = 24
fire_refusal_number BeyondModel = 25

abbrev pub look_refusal_number : LookRefusal → ℕ
look_refusal_number NoSuchRow = 26

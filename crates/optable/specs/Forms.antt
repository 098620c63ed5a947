-- The forms that the source declares, as those of the definition. Assumes nothing.
use Rattle.spec.specs.Op.{Form, set_form, d_form, dab_form, da_form, a_form, no_form, unknown_form}
use Rattle.optable.specs.declared.Form.{Form as Declared}
use Rattle.optable.specs.declared.Form.TheVariants.{SetForm, DForm, DabForm, DaForm, AForm, NoForm, UnknownForm}

abbrev pub meaning : Declared → Form
meaning SetForm = set_form
meaning DForm = d_form
meaning DabForm = dab_form
meaning DaForm = da_form
meaning AForm = a_form
meaning NoForm = no_form
meaning UnknownForm = unknown_form

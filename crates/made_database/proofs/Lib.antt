pub mod MadeTexts
pub mod MadeSteps
pub mod MadeLimits
pub mod MadeSound

mod StopLaws
mod LastingUpdates
mod DiskAnswers
mod StepLaws
mod Servings
mod FrontLaws

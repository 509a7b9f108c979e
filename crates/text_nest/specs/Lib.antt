-- ---- middles: what the code keeps open as a nest of text_model
pub mod NestView
pub mod Fits
pub mod Strays
